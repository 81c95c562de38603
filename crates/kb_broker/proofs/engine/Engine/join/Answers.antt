use Rattle.std.proofs.Common.{◌≡◌, ◌≤◌, ◌∷◌, ◌∙◌, ◌+◌, ℕ, true, false, length, take, get_or, inl, inr, sym, subst, rules, IsPermutation}
use Rattle.std.specs.Prelude.{Contains}
use Rattle.std.proofs.lemmas.List.{take_all}
use Rattle.kb_isolation_spec.specs.Machine.{find_line}
use Rattle.kb_broker.specs.Able.{Numbers}
use Rattle.kb_broker.specs.Parked.{can_in}
use Rattle.kb_broker.proofs.Going.{from-true, put-keeps, put-more, skip-more}
use Rattle.kb_broker.proofs.engine.Engine.join.Goals as goal
use Rattle.kb_broker.proofs.engine.Engine.join.Goals.{else-can_turn-via-then-can_turn+else-not-put, else-can_turn-via-else-can_turn}

pub loop-number-preserved : goal.loop-number-preserved
loop-number-preserved g c =
    let able : ℕ → Type 0 = λ k. can_in (find_line k c.args.self.now.state.lines) ≡ true in
    let j = c.loop-number.number-index in
    let ns = c.args.numbers.now in
    let n = get_or ns j 0 in
    let ks = c.loop-number.able.items in
    let v = c.loop-number.invariant in
    let Then : Numbers → Type 0 = λ a. record {
      before : (k : ℕ) → Contains c.args.able.now.items k → Contains a.items k;
      added : (k : ℕ) → able k → Contains (take (j + 1) ns) k → Contains a.items k;
    } in
    elim c.else-can_turn.branch [
      | else-can_turn-via-then-can_turn+else-not-put w ↦
          let ms = w.put.new.self.items in
          let put : IsPermutation (n ∷ ks) ms = from-true w.put.result _ w.if-not-put.false w.put.ensures.put in
          subst Then (sym w.able-is)
          (record { before = λ k h. put-keeps n ks ms put k (v.before k h); added = put-more able j ns ks ms 0 c.loop-number-test.true put v.added })
      | else-can_turn-via-else-can_turn w ↦
          subst Then (sym w.able-is)
          (record { before = v.before; added = skip-more able j ns ks 0 c.loop-number-test.true (λ e. let no : false ≡ true = sym w.if-can_turn.false ∙ (c.can_turn.ensures ∙ e) in cc) v.added })
    ]

pub returns : goal.returns
returns g c =
    let v = c.loop-number.invariant in
    let end : length c.args.numbers.now ≤ c.loop-number.number-index = search rules in
    λ k able h. elim h [ inl old ↦ v.before k old | inr new ↦ v.added k able (subst (λ xs. Contains xs k) (sym (take_all c.loop-number.number-index c.args.numbers.now end)) new) ]
