-- A connection's limits.
use Rattle.std.proofs.Common.{◌≡◌, ◌∙◌, ℕ, List, [], length, Bool, true, false, refl, sym, ap, arith}
use Rattle.kb_wire.specs.Codec.{int}
use Rattle.kb_api_group.specs.Frames.{Front, Whole, Partial, TooSmall, TooLarge, front}
use Rattle.kb_api_group.specs.FrameStream.{behind, answer}
use Rattle.kb_api_group.specs.declared.api_versions.ApiVersion.{ApiVersion}
use Rattle.kb_api_group.specs.declared.frames.Next.TheVariants as answers
use Rattle.kb_isolation_spec.proofs.Laws.{front-rest}
use Rattle.kb_isolation_spec.specs.Session.{Stage, Greets, BoundTo, is_free, without_wait}
use Rattle.kb_connection.specs.Fronts.{is_tenants_at}
use Rattle.kb_connection.specs.View.{IsLimited}

-- the request in front was left behind
pub limited-behind : (limit : ℕ) (unread : List ℕ) (stage : Stage) (shut : Bool) → IsLimited limit unread stage shut → IsLimited limit (behind (front limit unread) unread) stage shut
limited-behind limit unread stage shut h = by (front limit unread) refl
  where
    by : (f : Front) → front limit unread ≡ f → IsLimited limit (behind f unread) stage shut
    by (Whole frame rest) e =
        let less = front-rest limit unread frame rest e in
        let within = h.0 in
        (omega arith, λ s. (let none : length unread ≡ 0 = ap length (h.1 s) in absurd (omega arith)), h.2)
    by Partial e = h
    by TooSmall e = h
    by TooLarge e = h

-- who waits for nothing is free
pub free-without : (st : Stage) → is_free (without_wait st) ≡ true
free-without (Greets h) = refl
free-without (BoundTo t w) = refl

none-front : (limit : ℕ) → front limit [] ≡ Partial
unfolding front int
none-front limit = refl

-- a connection in front of which a frame stands was not shut
pub framed-open : (limit : ℕ) (unread bytes : List ℕ) (stage : Stage) (shut : Bool) → IsLimited limit unread stage shut → answers.Frame bytes ≡ answer (front limit unread) → shut ≡ false
framed-open limit unread bytes stage false h e = refl
framed-open limit unread bytes stage true h e = let none : answers.Frame bytes ≡ answer Partial = e ∙ (ap (λ u. answer (front limit u)) (h.1 refl) ∙ ap answer (none-front limit)) in absurd (cc)

-- nor was one in front of which a request of its tenant stands
pub asked-open : (versions : List ApiVersion) (limit : ℕ) (unread : List ℕ) (stage : Stage) (shut : Bool) → IsLimited limit unread stage shut → is_tenants_at versions (front limit unread) ≡ true → shut ≡ false
asked-open versions limit unread stage false h e = refl
asked-open versions limit unread stage true h e =
    let none : is_tenants_at versions Partial ≡ true = sym (ap (λ u. is_tenants_at versions (front limit u)) (h.1 refl) ∙ ap (is_tenants_at versions) (none-front limit)) ∙ e in absurd (cc)
