use Rattle.std.proofs.Common.{ℕ, All, arith, subst, sym}
use Rattle.std.proofs.lemmas.List.{take_all}
use Rattle.std.specs.Prelude.{IsSomeAnd}
use Rattle.std.specs.FinMap as fin
use Rattle.kb_waits.specs.Queue.{AreParked, IsUnder, IsUnderAny}
use Rattle.kb_broker.specs.Parked.{key_of, keys_of}
use Rattle.kb_broker.proofs.Parked.{alone-parked, none-parked}
use Rattle.kb_broker.proofs.parking.Parking.touched.Goals as goal

pub returns : goal.returns
returns c =
    let a = c.args in
    let q = a.self.now in
    let v = c.loop-place.invariant in
    let all = take_all c.loop-place.place-index a.places.now (omega (arith, c.loop-place-test.false)) in
    subst (AreParked q (IsUnderAny (keys_of a.tenant a.places.now))) (sym v.none)
    (none-parked q a.tenant a.places.now (subst (All (λ place. (k : ℕ) → IsSomeAnd (fin.get q k) (IsUnder (key_of a.tenant place)) → ⊥)) all v.apart))

pub returns-in-len1 : goal.returns-in-len1
returns-in-len1 c =
    let a = c.args in
    let ns = c.touched.new.out.items in
    let least = c.in-len1.len_at_least in
    let below = c.in-len1.len_below in
    subst (λ q. AreParked q (IsUnderAny (keys_of a.tenant a.places.now)) ns) c.self.view_is
    (alone-parked c.self.inside.waits a.tenant a.places.now _ ns (omega (arith, least, below)) (subst (λ key. AreParked c.self.inside.waits (IsUnder key) ns) c.key_of.ensures c.in_ok-touched.ensures.touched))
