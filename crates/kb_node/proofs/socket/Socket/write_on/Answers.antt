use Rattle.std.proofs.Common.{sym, ◌≡◌, ◌++◌, ◌+◌, ◌-◌, ◌∙◌, ap, subst, List, ℕ, drop, take, length, length-drop}
use Rattle.std.proofs.lemmas.List.{take-append-drop, drop-drop}
use Rattle.std.proofs.Math.Seq.{take-length}
use Rattle.std.specs.Io.KnownBytes.{Appends}
use Rattle.kb_node.proofs.socket.Socket.write_on.Goals as goal

split : (w n : ℕ) (xs : List ℕ) → drop w xs ≡ take n (drop w xs) ++ drop (w + n) xs
split w n xs = sym (take-append-drop n (drop w xs)) ∙ ap (λ r. take n (drop w xs) ++ r) (drop-drop n w xs)

to_end : (w : ℕ) (xs : List ℕ) → take (length xs - w) (drop w xs) ≡ drop w xs
to_end w xs = subst (λ n. take n (drop w xs) ≡ drop w xs) (length-drop w xs) (take-length (drop w xs))

pub returns-in-Ok-clause-written : goal.returns-in-Ok-clause-written
returns-in-Ok-clause-written g c =
    let w = c.args.self.now.written in let n = c.in-Ok.n in let xs = c.args.self.now.output.items in
    let told : Appends (g.T.Write.contents c.args.self.now.stream) (g.T.Write.contents c.write_to.new.stream) (take n (drop w xs)) =
    subst (λ ys. Appends (g.T.Write.contents c.args.self.now.stream) (g.T.Write.contents c.write_to.new.stream) (take n ys)) (to_end w xs)
    (subst (λ ys. Appends (g.T.Write.contents c.args.self.now.stream) (g.T.Write.contents c.write_to.new.stream) (take n (take (length ys - w) (drop w ys)))) c.deref.ensures.value c.in-Ok.ensures.bytes) in
    (take n (drop w xs), told, split w n xs)
