-- What a commit comes to.
use Rattle.std.proofs.Common.{◌≡◌, ◌∙◌, ℕ, ℤ, List, [], refl, ap, subst}
use Rattle.std.specs.Prelude.{Option}
use Rattle.kb_api_group.specs.Layouts.{offset_commit_reply}
use Rattle.kb_api_group.specs.declared.offset_commit.OffsetCommitRequest.{OffsetCommitRequest}
use Rattle.kb_coordinator.specs.Calls.{after_may_commit}
use Rattle.kb_coordinator.specs.Groups.{Groups, silent}
use Rattle.kb_store.proofs.Seen.{on_err}
use Rattle.kb_tenant_state.specs.Parts.{Seen}
use Rattle.kb_tenant_state.specs.Scene.{Scene, WhereHonest}
use Rattle.kb_tenant_state.specs.World.{World}
use Rattle.kb_tenant.specs.Entries.{commit_entries, within}
use Rattle.kb_tenant.specs.OffsetCommit.{asked_commit, committed_all}
use Rattle.kb_tenant.specs.Told.{CatalogFailed}
use Rattle.kb_tenant.specs.declared.answer.Answer.TheVariants as plain
use Rattle.kb_tenant.specs.declared.limits.DataLimits.{DataLimits}
use Rattle.kb_tenant_api.specs.Acknowledged.{AcknowledgesCommits}
use Rattle.kb_tenant_api.specs.Replies.{IsAnswer, replies}
use Rattle.kb_tenant_api.specs.Serve.{commit_refusal, of_offset_commit, IsOutcome}
use Rattle.kb_tenant_api.specs.declared.answer.Answer.{Answer}
use Rattle.kb_tenant_api.specs.declared.answer.Answer.TheVariants as answers
use Rattle.kb_tenant.proofs.Cutting.{commits_none}

-- a commit, where the last replies were forgotten first
pub commits : (limits : DataLimits) (id : ℤ) (w after : World) (clock : ℕ) (gs quiet new : Groups) (r : OffsetCommitRequest) (refusal : Option ℤ) (answer : Answer) → quiet ≡ silent gs → refusal ≡ commit_refusal quiet r
    → new ≡ after_may_commit clock r.group_id r.member_id r.generation_id quiet → after ≡ (committed_all limits w refusal r).0 → IsAnswer id (replies (offset_commit_reply.written (committed_all limits w refusal r).1)) answer
    → IsOutcome id (of_offset_commit limits w clock gs r) after new [] answer
commits limits id w after clock gs quiet new r refusal answer is refused new_is after_is h =
    let told : refusal ≡ commit_refusal gs r = refused ∙ ap (λ x. commit_refusal x r) is in (
      after_is ∙ ap (λ x. (committed_all limits w x r).0) told,
      new_is ∙ ap (after_may_commit clock r.group_id r.member_id r.generation_id) is,
      refl,
      subst (λ x. IsAnswer id (replies (offset_commit_reply.written (committed_all limits w x r).1)) answer) told h,
    )

-- an OffsetCommit that changed nothing
pub commits_untouched : (a : Scene Seen) (limits : DataLimits) (id version : ℤ) (body : List ℕ) (gs : Groups)
    → WhereHonest a a (AcknowledgesCommits (CatalogFailed a a) limits id version gs a.state.world body a.state.world (answers.Plain plain.Shut))
commits_untouched a limits id version body gs honest agree = (
  λ q read. commits_none (CatalogFailed a a) limits (commit_refusal gs q) a.state.world q,
  on_err (within limits.request_entries commit_entries (asked_commit version body)) (refl, refl),
)
