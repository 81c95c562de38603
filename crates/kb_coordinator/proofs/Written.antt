-- What is written, part by part.
use Rattle.std.proofs.Common.{◌≡◌, ◌∙◌, sym, ap, refl, ℕ, suc, ◌+◌, ◌<◌, ◌≤◌, ◌^◌, List, ◌∷◌, ◌++◌, length, map, ℤ, pos, drop, get_or, drop-cons, add-one, append_assoc, w32}
use Rattle.std.proofs.lemmas.List.{append-nil}
use Rattle.std.specs.List.{flat_map}
use Rattle.kb_coordinator.proofs.Lists.{drop_end}
use Rattle.kb_wire.specs.Codec.{Codec, count, counted, int, sized, items, array, utf8, string, int16, int32}
use Rattle.kb_api_group.specs.Layouts.{join_group_reply, join_member}
use Rattle.kb_api_group.specs.declared.join_group.JoinMember.{JoinMember}

-- one entry is written, and the others are to come
pub write_next : {E A : Type 0} (write : A → List ℕ) (f : E → A) (out more : List ℕ) (es : List E) (i : ℕ) (e : E) → i < length es → e ≡ get_or es i e → more ≡ out ++ write (f e)
    → more ++ flat_map write (map f (drop (i + 1) es)) ≡ out ++ flat_map write (map f (drop i es))
write_next {E} {A} write f out more es i e lt is wrote =
    let rest = drop (suc i) es in
    let there : drop i es ≡ e ∷ rest = drop-cons es i e lt ∙ ap (λ x. x ∷ rest) (sym is) in
    ap (λ m. m ++ flat_map write (map f (drop (i + 1) es))) wrote
    ∙ ap (λ n. (out ++ write (f e)) ++ flat_map write (map f (drop n es))) (add-one i)
    ∙ append_assoc out (write (f e)) (flat_map write (map f rest))
    ∙ ap (λ l. out ++ flat_map write (map f l)) (sym there)

-- behind the last entry nothing is to come
pub write_over : {E A : Type 0} (write : A → List ℕ) (f : E → A) (out : List ℕ) (es : List E) (i : ℕ) → length es ≤ i → out ++ flat_map write (map f (drop i es)) ≡ out
write_over write f out es i le = ap (λ l. out ++ flat_map write (map f l)) (drop_end i es le) ∙ append-nil out

pub array_written : {A : Type 0} (c : Codec A) (vs : List A) (n : ℕ) → n ≡ length vs → (count w32).written n ++ flat_map c.written vs ≡ (array c).written vs
unfolding sized items
array_written c vs n is = ap (λ m. (count w32).written m ++ flat_map c.written vs) is

-- one after another
pub written_both : (old s1 s2 x y : List ℕ) → s1 ≡ old ++ x → s2 ≡ s1 ++ y → s2 ≡ old ++ (x ++ y)
written_both old s1 s2 x y p q = q ∙ ap (λ s. s ++ y) p ∙ append_assoc old x y

-- a count below 2 ^ 31 fits
pub small_count : (n : ℕ) → n < 2 ^ 31 → (count w32).Fits n
unfolding counted int
small_count n lt = (tt, record { sfits = lt })

-- a text, whose length stands before it
pub text_written : (v old s1 s2 : List ℕ) → s1 ≡ old ++ int16.written (pos (length v)) → s2 ≡ s1 ++ v → s2 ≡ old ++ string.written v
unfolding sized counted utf8
text_written v old s1 s2 p q = written_both old s1 s2 (int16.written (pos (length v))) v p q

-- the reply of JoinGroup, but for its members
pub front_written : (code generation : ℤ) (protocol leader member : List ℕ) (members : List JoinMember) (s0 s1 s2 s3 s4 s5 : List ℕ)
    → s1 ≡ s0 ++ int16.written code → s2 ≡ s1 ++ int32.written generation → s3 ≡ s2 ++ string.written protocol → s4 ≡ s3 ++ string.written leader → s5 ≡ s4 ++ string.written member
    → s5 ++ (array join_member).written members ≡ s0 ++ join_group_reply.written (record { error_code = code; generation_id = generation; protocol_name = protocol; leader = leader; member_id = member; members = members })
unfolding join_group_reply
front_written code generation protocol leader member members s0 s1 s2 s3 s4 s5 a b c d e =
    let last = (array join_member).written members in
    let five = string.written member ++ last in
    let four = string.written leader ++ five in
    let three = string.written protocol ++ four in
    let all = s5 ++ last in
    written_both s0 s1 all (int16.written code) (int32.written generation ++ three) a
    (written_both s1 s2 all (int32.written generation) three b
    (written_both s2 s3 all (string.written protocol) four c
    (written_both s3 s4 all (string.written leader) five d
    (written_both s4 s5 all (string.written member) last e refl))))
