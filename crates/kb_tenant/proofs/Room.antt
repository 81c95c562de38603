-- How long the parts of a produce's reply are, and what is put within the room for it.
use Rattle.std.proofs.Common.{◌≡◌, ◌∙◌, sym, ap, refl, subst, ℕ, ◌+◌, ◌*◌, ◌<◌, ◌≤◌, ◌^◌, Bool, true, false, List, [], ◌∷◌, ◌++◌, length, take, drop, get_or, Result, Ok, Err, IsErr, IsOk, OnErr, OnOk, arith, append_assoc, length-append, w32}
use Rattle.std.specs.List.{sum_by}
use Rattle.std.specs.declared.alloc.AllocError.{AllocError}
use Rattle.std.proofs.lemmas.List.{append-nil, take-append-drop, take_all, take_more}
use Rattle.std.proofs.lemmas.List.Sums.{sum_by-append, sum_by_more}
use Rattle.kb_wire.specs.Codec.{count, counted, int, int32, items, sized, string, utf8}
use Rattle.kb_wire.specs.Sunk.{Puts, Sunk}
use Rattle.kb_api_data.specs.Layouts.{produce_partition_reply, produce_topic}
use Rattle.kb_api_data.specs.ProduceV5.{produce_partition_reply_v5}
use Rattle.kb_api_data.specs.declared.produce.ProducePartition.{ProducePartition}
use Rattle.kb_api_data.specs.declared.produce.ProducePartitionReply.{ProducePartitionReply}
use Rattle.kb_api_data.specs.declared.produce_v5.ProducePartitionReplyV5.{ProducePartitionReplyV5}
use Rattle.kb_api_data.specs.declared.produce.ProduceRequest.{ProduceRequest}
use Rattle.kb_api_data.specs.declared.produce.ProduceTopic.{ProduceTopic}
use Rattle.kb_tenant.specs.Room.{entries_length, entry_length, length_due, reply_length, topic_length, IsLonger, IsPut}

-- ---- lengths

pub count_length : (n : ℕ) → length ((count w32).written n) ≡ 4
unfolding counted int
count_length n = refl

pub string_length : (name : List ℕ) → length (string.written name) ≡ 2 + length name
unfolding sized counted int utf8
string_length name = omega arith

pub number_length : (z : _) → length (int32.written z) ≡ 4
unfolding int
number_length z = refl

pub answer_length : (x : ProducePartitionReply) → length (produce_partition_reply.written x) ≡ 22
unfolding produce_partition_reply int
answer_length x = refl

pub answer_v5_length : (x : ProducePartitionReplyV5) → length (produce_partition_reply_v5.written x) ≡ 30
unfolding produce_partition_reply_v5 int
answer_v5_length x = refl

-- one entry more, and no more entries
entry_more : (starts : Bool) (m n : ℕ) → n ≡ m + 1 → entry_length starts * m + entry_length starts ≡ entry_length starts * n
entry_more true m n is = omega (arith, is)
entry_more false m n is = omega (arith, is)

entry_most : (starts : Bool) (m n : ℕ) → m ≤ n → entry_length starts * m ≤ entry_length starts * n
entry_most true m n le = omega (arith, le)
entry_most false m n le = omega (arith, le)

-- the name of a topic that fits, and its entries
pub short_name : (t : ProduceTopic) → produce_topic.Fits t → length t.name < 2 ^ 15
unfolding produce_topic sized counted int utf8
short_name t fits = fits.0.0.1.sfits

pub few_entries : (t : ProduceTopic) → produce_topic.Fits t → length t.partitions < 2 ^ 31
unfolding produce_topic sized counted int items
few_entries t fits = fits.1.0.1.sfits

-- a front has no more than the whole
pub front_sum : {X : Type 0} (f : X → ℕ) (i : ℕ) (xs : List X) → sum_by f (take i xs) ≤ sum_by f xs
front_sum f i xs = omega (arith, sym (sum_by-append f (take i xs) (drop i xs)) ∙ ap (sum_by f) (take-append-drop i xs))

-- one item more
pub next_sum : {X : Type 0} (f : X → ℕ) (xs : List X) (i : ℕ) (x : X) → i < length xs → x ≡ get_or xs i x → sum_by f (take (i + 1) xs) ≡ sum_by f (take i xs) + f x
next_sum f xs i x lt is = sum_by_more f xs i x lt ∙ ap (λ y. sum_by f (take i xs) + f y) (sym is)

-- ---- where a reply is due

pub both_lengths : (due : Bool) (m n : ℕ) → length_due due m + length_due due n ≡ length_due due (m + n)
both_lengths true m n = refl
both_lengths false m n = refl

pub less_due : (due : Bool) (m n : ℕ) → m ≤ n → length_due due m ≤ length_due due n
less_due true m n le = le
less_due false m n le = omega arith

-- ---- puts

put_one : (n : ℕ) (bytes : List ℕ) (old new : Sunk) (r : Result (Unit {0}) AllocError) → length bytes ≡ n → OnOk r (new.bytes ≡ old.bytes ++ bytes) → (length bytes ≤ old.room → IsOk r) → OnOk r (old.room ≤ new.room + length bytes) → IsPut n old r new
put_one n bytes old new (Ok u) many added within room = record { longer = record { more = bytes; is = added; many = many }; succeeds = λ le. refl; room = omega (arith, room, many) }
put_one n bytes old new (Err e) many added within room = record { longer = tt; succeeds = λ le. within (omega (arith, le, many)); room = tt }

-- a put of bytes of which a reply is due
pub put_due : (due : Bool) (n : ℕ) (bytes : List ℕ) (old new : Sunk) (r : Result (Unit {0}) AllocError) → due ≡ true → length bytes ≡ n → Puts old bytes r new → IsPut (length_due due n) old r new
put_due due n bytes old new r is many p = subst (λ d. IsPut (length_due d n) old r new) (sym is) (put_one n bytes old new r many p.ok p.succeeds p.room)

-- the same of a value that is written
pub value_due : (due : Bool) (bytes : List ℕ) (old new : Sunk) (r : Result (Unit {0}) AllocError) → due ≡ true → OnOk r (new.bytes ≡ old.bytes ++ bytes) → (length bytes ≤ old.room → IsOk r) → OnOk r (old.room ≤ new.room + length bytes)
    → IsPut (length_due due (length bytes)) old r new
value_due due bytes old new r is added within room = subst (λ d. IsPut (length_due d (length bytes)) old r new) (sym is) (put_one (length bytes) bytes old new r refl added within room)

-- nothing is put
pub put_none : (s : Sunk) → IsPut 0 s (Ok tt) s
put_none s = record { longer = record { more = []; is = sym (append-nil s.bytes); many = refl }; succeeds = λ le. refl; room = omega arith }

pub not_due : (due : Bool) (n : ℕ) (s : Sunk) → due ≡ false → IsPut (length_due due n) s (Ok tt) s
not_due due n s is = subst (λ d. IsPut (length_due d n) s (Ok tt) s) (sym is) (put_none s)

longer_then : (m n : ℕ) (a b c : List ℕ) → IsLonger m a b → IsLonger n b c → IsLonger (m + n) a c
longer_then m n a b c p q = record {
  more = p.more ++ q.more;
  is = q.is ∙ ap (λ s. s ++ q.more) p.is ∙ append_assoc a p.more q.more;
  many = omega (arith, length-append p.more q.more, p.many, q.many);
}

-- one put and then another
pub put_then : (m n : ℕ) (a b c : Sunk) (r : Result (Unit {0}) AllocError) → IsPut m a (Ok tt) b → IsPut n b r c → IsPut (m + n) a r c
put_then m n a b c (Ok u) p q = record { longer = longer_then m n a.bytes b.bytes c.bytes p.longer q.longer; succeeds = λ le. refl; room = omega (arith, p.room, q.room) }
put_then m n a b c (Err e) p q = record { longer = tt; succeeds = λ le. q.succeeds (omega (arith, le, p.room)); room = tt }

-- the same of bytes of which a reply is due
pub due_then : (due : Bool) (m n k : ℕ) (a b c : Sunk) (r : Result (Unit {0}) AllocError) → m + n ≡ k → IsPut (length_due due m) a (Ok tt) b → IsPut (length_due due n) b r c → IsPut (length_due due k) a r c
due_then due m n k a b c r sum p q = subst (λ l. IsPut l a r c) (both_lengths due m n ∙ ap (length_due due) sum) (put_then (length_due due m) (length_due due n) a b c r p q)

-- where a put is refused, so are those that it is one of
pub refused_of : (m n : ℕ) (a b c : Sunk) (e : AllocError) → m ≤ n → IsPut m a (Err e) b → IsPut n a (Err e) c
refused_of m n a b c e le p = record { longer = tt; succeeds = λ room. p.succeeds (omega (arith, le, room)); room = tt }

never : (r : Result (Unit {0}) AllocError) (e : AllocError) → r ≡ Err e → IsOk r → ⊥
never r e is ok = absurd cc

-- where there is room for a whole, and some of it was put, what is not beyond it is put
pub within_room : (due : Bool) (m n k : ℕ) (a b c : Sunk) (e : AllocError) → m + n ≤ k → length_due due k ≤ a.room → IsPut (length_due due m) a (Ok tt) b → IsPut (length_due due n) b (Err e) c → ⊥
within_room due m n k a b c e le room p q = never (Err e) e refl (q.succeeds (omega (arith, room, p.room, both_lengths due m n, less_due due (m + n) k le)))

-- ---- a produce

-- the answer of one entry more
pub entry_put : (starts due : Bool) (es : List ProducePartition) (i : ℕ) (e : ProducePartition) (a b c : Sunk) (r : Result (Unit {0}) AllocError) → i < length es
    → IsPut (length_due due (entries_length starts (take i es))) a (Ok tt) b → IsPut (length_due due (entry_length starts)) b r c → IsPut (length_due due (entries_length starts (take (i + 1) es))) a r c
entry_put starts due es i e a b c r lt p q =
    due_then due (entries_length starts (take i es)) (entry_length starts) (entries_length starts (take (i + 1) es)) a b c r
    (entry_more starts (length (take i es)) (length (take (i + 1) es)) (omega (arith, ap length (take_more es i e lt), length-append (take i es) (get_or es i e ∷ []))))
    p q

few_taken : {X : Type 0} (i : ℕ) (xs : List X) → length (take i xs) ≤ length xs
few_taken i xs = omega (arith, sym (length-append (take i xs) (drop i xs)) ∙ ap length (take-append-drop i xs))

pub entry_refused : (starts due : Bool) (es : List ProducePartition) (i : ℕ) (e : ProducePartition) (a b c d : Sunk) (f : AllocError) → i < length es
    → IsPut (length_due due (entries_length starts (take i es))) a (Ok tt) b → IsPut (length_due due (entry_length starts)) b (Err f) c → IsPut (length_due due (entries_length starts es)) a (Err f) d
entry_refused starts due es i e a b c d f lt p q =
    refused_of (length_due due (entries_length starts (take (i + 1) es))) (length_due due (entries_length starts es)) a c d f
    (less_due due (entries_length starts (take (i + 1) es)) (entries_length starts es) (entry_most starts (length (take (i + 1) es)) (length es) (few_taken (i + 1) es))) (entry_put starts due es i e a b c (Err f) lt p q)

pub entries_put : (starts due : Bool) (es : List ProducePartition) (i : ℕ) (a b : Sunk) → length es ≤ i → IsPut (length_due due (entries_length starts (take i es))) a (Ok tt) b → IsPut (length_due due (entries_length starts es)) a (Ok tt) b
entries_put starts due es i a b le p = subst (λ xs. IsPut (length_due due (entries_length starts xs)) a (Ok tt) b) (take_all i es le) p

-- the name and the count of a topic, and the answers of its entries
pub topic_put : (starts due : Bool) (t : ProduceTopic) (name : List ℕ) (es : List ProducePartition) (a b c d : Sunk) (r : Result (Unit {0}) AllocError) → name ≡ t.name → es ≡ t.partitions
    → IsPut (length_due due (2 + length name)) a (Ok tt) b → IsPut (length_due due 4) b (Ok tt) c → IsPut (length_due due (entries_length starts es)) c r d → IsPut (length_due due (topic_length starts t)) a r d
topic_put starts due t name es a b c d r nis eis p q s =
    due_then due (2 + length name + 4) (entries_length starts es) (topic_length starts t) a c d r (ap (λ xs. 2 + length xs + 4 + entries_length starts es) nis ∙ ap (λ xs. 2 + length t.name + 4 + entries_length starts xs) eis)
    (due_then due (2 + length name) 4 (2 + length name + 4) a b c (Ok tt) refl p q) s

pub name_refused : (starts due : Bool) (t : ProduceTopic) (name : List ℕ) (a b : Sunk) (e : AllocError) → name ≡ t.name → IsPut (length_due due (2 + length name)) a (Err e) b → IsPut (length_due due (topic_length starts t)) a (Err e) b
name_refused starts due t name a b e nis p = refused_of (length_due due (2 + length name)) (length_due due (topic_length starts t)) a b b e (less_due due (2 + length name) (topic_length starts t) (omega (arith, ap length nis))) p

pub count_refused : (starts due : Bool) (t : ProduceTopic) (name : List ℕ) (a b c : Sunk) (e : AllocError) → name ≡ t.name
    → IsPut (length_due due (2 + length name)) a (Ok tt) b → IsPut (length_due due 4) b (Err e) c → IsPut (length_due due (topic_length starts t)) a (Err e) c
count_refused starts due t name a b c e nis p q =
    refused_of (length_due due (2 + length name + 4)) (length_due due (topic_length starts t)) a c c e (less_due due (2 + length name + 4) (topic_length starts t) (omega (arith, ap length nis)))
    (due_then due (2 + length name) 4 (2 + length name + 4) a b c (Err e) refl p q)

-- the answers of one topic more
pub topics_put : (starts due : Bool) (ts : List ProduceTopic) (i : ℕ) (t : ProduceTopic) (a b c : Sunk) (r : Result (Unit {0}) AllocError) → i < length ts → t ≡ get_or ts i t
    → IsPut (length_due due (sum_by (topic_length starts) (take i ts))) a (Ok tt) b → IsPut (length_due due (topic_length starts t)) b r c → IsPut (length_due due (sum_by (topic_length starts) (take (i + 1) ts))) a r c
topics_put starts due ts i t a b c r lt is p q = due_then due (sum_by (topic_length starts) (take i ts)) (topic_length starts t) (sum_by (topic_length starts) (take (i + 1) ts)) a b c r (sym (next_sum (topic_length starts) ts i t lt is)) p q

-- within the room for the whole reply no topic's answer is refused
pub topic_within : (starts due : Bool) (r : ProduceRequest) (i : ℕ) (t : ProduceTopic) (a b c d : Sunk) (e : AllocError) → i < length r.topics → t ≡ get_or r.topics i t → length_due due (reply_length starts r) ≤ a.room
    → IsPut (length_due due 4) a (Ok tt) b → IsPut (length_due due (sum_by (topic_length starts) (take i r.topics))) b (Ok tt) c → IsPut (length_due due (topic_length starts t)) c (Err e) d → ⊥
topic_within starts due r i t a b c d e lt is room p q s =
    let so_far = sum_by (topic_length starts) (take i r.topics) in
    within_room due (4 + so_far) (topic_length starts t) (reply_length starts r) a c d e (omega (arith, next_sum (topic_length starts) r.topics i t lt is, front_sum (topic_length starts) (i + 1) r.topics)) room
    (due_then due 4 so_far (4 + so_far) a b c (Ok tt) refl p q) s

-- the whole reply: the count, the topics' answers, and the throttle time
pub reply_put : (starts due : Bool) (r : ProduceRequest) (i : ℕ) (last : List ℕ) (a b c d : Sunk) (result : Result (Unit {0}) AllocError) → length r.topics ≤ i → length last ≡ 4
    → IsPut (length_due due 4) a (Ok tt) b → IsPut (length_due due (sum_by (topic_length starts) (take i r.topics))) b (Ok tt) c → IsPut (length_due due (length last)) c result d → IsPut (length_due due (reply_length starts r)) a result d
reply_put starts due r i last a b c d result le four p q s =
    let all : IsPut (length_due due (sum_by (topic_length starts) r.topics)) b (Ok tt) c = subst (λ ts. IsPut (length_due due (sum_by (topic_length starts) ts)) b (Ok tt) c) (take_all i r.topics le) q in
    due_then due (4 + sum_by (topic_length starts) r.topics) 4 (reply_length starts r) a c d result (omega arith)
    (due_then due 4 (sum_by (topic_length starts) r.topics) (4 + sum_by (topic_length starts) r.topics) a b c (Ok tt) refl p all)
    (subst (λ n. IsPut (length_due due n) c result d) four s)

-- within the room for it nothing is refused
pub never_refused : (P : Type 0) (n : ℕ) (a d : Sunk) (result : Result (Unit {0}) AllocError) → n ≤ a.room → IsPut n a result d → OnErr result P
never_refused P n a d (Ok u) room p = tt
never_refused P n a d (Err e) room p = absurd (never (Err e) e refl (p.succeeds room))

-- a refusal that is handed on
pub handed_on : (n : ℕ) (a c : Sunk) (e : AllocError) (r : Result (Unit {0}) AllocError) → IsErr r → IsPut n a (Err e) c → IsPut n a r c
handed_on n a c e (Ok u) err p = absurd cc
handed_on n a c e (Err d) err p = record { longer = tt; succeeds = λ room. p.succeeds room; room = tt }
