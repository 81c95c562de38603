use Rattle.std.proofs.Common.{refl, sym, ◌≡◌, ◌-◌, ◌∙◌, subst, [], length, List, ℕ, drop}
use Rattle.std.proofs.Math.Seq.{drop-length}
use Rattle.kb_node.proofs.Carries.{takes_told}
use Rattle.kb_node.proofs.socket.Socket.take_output.Goals as goal

all_dropped : (n : ℕ) (xs : List ℕ) → n ≡ length xs → drop n xs ≡ []
all_dropped n xs is = subst (λ k. drop k xs ≡ []) (sym is) (drop-length xs)

pub returns-clause-tells : goal.returns-clause-tells
returns-clause-tells g c = takes_told g.S.Store.disk g.T.Write.contents g.T.Read.remaining c.args.self.now _ _ _ c.take_output.ensures.lasts c.take_output.ensures.broker refl
    (all_dropped c.args.self.now.written c.args.self.now.output.items (c.requires.written ∙ c.args.self.now.output.ok.0)) c.take_output.ensures.output refl (λ is. is) refl
