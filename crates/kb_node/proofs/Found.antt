-- How many addresses come where one is spelled out.
use Rattle.std.proofs.Common.{◌≡◌, ◌≤◌, ◌+◌, ◌∙◌, ℕ, suc, List, [], ◌∷◌, length, take, add-one, ap, refl, sym, arith}
use Rattle.std.specs.Array.Iter.{array_into_iter_items, array_steps}
use Rattle.std.specs.Iterator.{Yields}
use Rattle.std.specs.Iterator.Adapters.{take_count, take_source, take_steps}
use Rattle.std.specs.Net.ToAddrs.{HostAddrs, host_addrs}
use Rattle.std.specs.declared.net.SocketAddr.{SocketAddr}

take_one : {A : Type 0} (n : ℕ) (x : A) (xs : List A) → take (n + 1) (x ∷ xs) ≡ x ∷ take n xs
take_one n x xs = ap (λ k. take k (x ∷ xs)) (add-one n)

pub as_many : (xs : List SocketAddr) (s t : HostAddrs) → Yields (take_steps array_steps) s xs t → length xs ≤ length (host_addrs s)
as_many [] s t h = omega arith
as_many (x ∷ xs) s t h =
    let first : host_addrs s ≡ x ∷ host_addrs h.0 = ap (λ n. take n (array_into_iter_items (take_source s))) (sym h.1.1)
    ∙ ap (λ ys. take (take_count h.0 + 1) ys) h.1.0 ∙ take_one (take_count h.0) x (array_into_iter_items (take_source h.0)) in
    omega (arith, as_many xs h.0 t h.2, ap length first)
