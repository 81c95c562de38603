-- What a reply in front makes of a producer, and what input answers.
use Rattle.std.proofs.Common.{◌≡◌, ℕ, ◌<◌, ◌≤◌, List, [], ◌∷◌, length, Option, Some, Result, Ok, Err, refl, sym, ap, ◌∙◌, subst, arith}
use Rattle.kb_api_group.specs.Frames.{Front, Whole, Partial, TooSmall, TooLarge}
use Rattle.kb_api_group.specs.ClientFrames.{front}
use Rattle.kb_api_group.specs.FrameStream.{answer, behind}
use Rattle.kb_api_group.specs.declared.frames.Next.{Next}
use Rattle.kb_api_group.specs.declared.frames.Next.TheVariants as answers
use Rattle.kb_client.specs.declared.fault.ClientFault.{ClientFault}
use Rattle.kb_client.specs.declared.fault.ClientFault.TheVariants as faults
use Rattle.kb_client.specs.declared.stage.Ending.TheVariants as endings
use Rattle.kb_client.specs.declared.stage.Stage.{Stage}
use Rattle.kb_client.specs.declared.stage.Stage.TheVariants as stages
use Rattle.kb_client.specs.declared.stage.ProducerId.{ProducerId}
use Rattle.kb_client.specs.declared.reaction.Reaction.{Reaction}
use Rattle.kb_client.specs.declared.reaction.Reaction.TheVariants as reactions
use Rattle.kb_client.specs.Sent.{Line}
use Rattle.kb_client.specs.Stages.{fault_of}
use Rattle.kb_client.specs.Producer.{Producer, ended, heard, read_at, acknowledged, fed, ReportsFault, Inputs}
use Rattle.kb_client.specs.Reactions.{reacted}

-- unread bytes do not matter to what a reply calls for
acknowledged_unread : (producer : ProducerId) (lines : List Line) (p : Producer) (bytes : List ℕ) → acknowledged producer lines (record p { unread = bytes }) ≡ acknowledged producer lines p
acknowledged_unread producer [] p bytes = refl
acknowledged_unread producer (line ∷ lines) p bytes = refl

reacted_unread : (r : Reaction) (p : Producer) (bytes : List ℕ) → reacted r (record p { unread = bytes }) ≡ reacted r p
reacted_unread (reactions.Ends ending) p bytes = refl
reacted_unread (reactions.Enters stage) p bytes = refl
reacted_unread (reactions.Created stage) p bytes = refl
reacted_unread (reactions.Identified producer) p bytes = refl
reacted_unread (reactions.Stored producer) p bytes = acknowledged_unread producer p.lines p bytes

-- a reply and nothing behind it
pub read_one : (F : Front) (p after new : Producer) (frame bytes : List ℕ) (r : Reaction) → answers.Frame frame ≡ answer F → after ≡ record p { unread = behind F bytes } → (0 < length after.unread → ⊥) → reacted r p ≡ heard frame p → new ≡ reacted r after → new ≡ read_at F p
read_one (Whole frame' []) p after new frame bytes r is rest none calls does = does ∙ ap (λ q. reacted r q) rest ∙ reacted_unread r p [] ∙ calls ∙ ap (λ f. heard f p) cc
read_one (Whole frame' (b ∷ rest')) p after new frame bytes r is rest none calls does = absurd (none (subst (λ q. 0 < length q.unread) (sym rest) (omega arith)))
read_one Partial p after new frame bytes r is rest none calls does = absurd cc
read_one TooSmall p after new frame bytes r is rest none calls does = absurd cc
read_one TooLarge p after new frame bytes r is rest none calls does = absurd cc

-- more than a reply
pub read_more : (F : Front) (p after new : Producer) (frame bytes : List ℕ) → answers.Frame frame ≡ answer F → after ≡ record p { unread = behind F bytes } → 0 < length after.unread → new ≡ ended endings.Protocol after → new ≡ read_at F p
read_more (Whole frame' []) p after new frame bytes is rest some does = absurd (grind (arith, subst (λ q. 0 < length q.unread) rest some))
read_more (Whole frame' (b ∷ rest')) p after new frame bytes is rest some does = does ∙ ap (λ q. ended endings.Protocol q) rest
read_more Partial p after new frame bytes is rest some does = absurd cc
read_more TooSmall p after new frame bytes is rest some does = absurd cc
read_more TooLarge p after new frame bytes is rest some does = absurd cc

-- a client that ended takes no piece
pub fed_ended : (p : Producer) (piece : List ℕ) (fault : ClientFault) → fault_of p.stage ≡ Some fault → fed piece p ≡ p
unfolding fed
fed_ended p piece fault is = rw is refl

-- neither want of memory nor a long line ends it
never : (stage : Stage) (fault : ClientFault) → fault_of stage ≡ Some fault → (fault ≡ faults.Memory → ⊥) × (fault ≡ faults.LineTooLong → ⊥)
never stages.Closed fault is = absurd cc
never stages.Handshake fault is = absurd cc
never stages.Authenticate fault is = absurd cc
never (stages.Create partitions) fault is = absurd cc
never stages.Identify fault is = absurd cc
never (stages.Produce producer) fault is = absurd cc
never (stages.Ended endings.Denied) fault is = (λ e. cc, λ e. cc)
never (stages.Ended (endings.Code code)) fault is = (λ e. cc, λ e. cc)
never (stages.Ended endings.Protocol) fault is = (λ e. cc, λ e. cc)

-- a piece was taken, and the answer is whether it ended
pub input_is : (old new : Producer) (piece : List ℕ) (r : Result (Unit {0}) ClientFault) → new ≡ fed piece old → ReportsFault new.stage r → Inputs old piece r new
input_is old new piece (Ok u) is stands = (is, stands)
input_is old new piece (Err faults.Denied) is stands = (is, stands)
input_is old new piece (Err (faults.Code code)) is stands = (is, stands)
input_is old new piece (Err faults.Protocol) is stands = (is, stands)
input_is old new piece (Err faults.LineTooLong) is stands = (never new.stage faults.LineTooLong stands).1 refl
input_is old new piece (Err faults.Memory) is stands = absurd ((never new.stage faults.Memory stands).0 refl)

-- the fault of a client that ended
pub input_stands : (view p : Producer) (piece : List ℕ) (fault : ClientFault) (said : Option ClientFault) → view ≡ p → said ≡ fault_of view.stage → said ≡ Some fault → Inputs p piece (Err fault) p
input_stands view p piece fault said same is some =
    let stands : fault_of p.stage ≡ Some fault = ap (λ q. fault_of q.stage) (sym same) ∙ sym is ∙ some in
    input_is p p piece (Err fault) (sym (fed_ended p piece fault stands)) stands

-- the steps of a reply that stands in front with nothing behind it
pub read_reply : (view p new : Producer) (frame shown after : List ℕ) (next : Next) (r : Reaction) (n : ℕ) → view ≡ p → next ≡ answer (front view.unread) → next ≡ answers.Frame frame → shown ≡ frame → after ≡ behind (front view.unread) view.unread → n ≡ length after → n ≤ 0 → reacted r p ≡ heard shown p → new ≡ reacted r (record view { unread = after }) → new ≡ read_at (front p.unread) p
read_reply view p new frame shown after next r n same is found copied rest counted none calls does =
    read_one (front p.unread) p (record p { unread = after }) new frame p.unread r
    (sym found ∙ is ∙ ap (λ q. answer (front q.unread)) same)
    (ap (λ u. record p { unread = u }) (rest ∙ ap (λ q. behind (front q.unread) q.unread) same))
    (λ some. omega (arith, some, counted, none))
    (calls ∙ ap (λ f. heard f p) copied)
    (does ∙ ap (λ q. reacted r (record q { unread = after })) same)
