-- What is known of an answer.
use Rattle.std.proofs.Common.{OnOk, Result, Ok, Err}

pub on_ok : {T E P Q : Type 0} (r : Result T E) → OnOk r P → (P → Q) → OnOk r Q
on_ok (Ok x) p f = f p
on_ok (Err e) p f = tt
