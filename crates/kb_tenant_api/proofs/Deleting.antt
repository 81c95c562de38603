-- A group that is deleted, and what a request of DeleteGroups comes to.
use Rattle.std.proofs.Common.{◌≡◌, ◌∙◌, ◌⊎◌, ◌++◌, ◌<◌, ◌^◌, ⊎_elim, inl, inr, ℕ, ℤ, Bool, true, false, List, [], ◌∷◌, length, refl, sym, ap, subst, bytes_eq, if◌then◌else◌}
use Rattle.std.specs.Prelude.{pos, Option, Some, None, Result, Ok, Err, is_some}
use Rattle.std.proofs.lemmas.Bool.{false≢true}
use Rattle.kb_wire.specs.Codec.{array, int, int32, sized, counted, string, utf8, whole}
use Rattle.kb_wire.specs.ErrorCode.{code_of}
use Rattle.kb_wire.specs.declared.error_code.ErrorCode.TheVariants as codes
use Rattle.kb_wire.specs.declared.fault.ReadFault.{ReadFault}
use Rattle.kb_wire.specs.declared.fault.ReadFault.TheVariants as faults
use Rattle.kb_api_group.specs.Layouts.{delete_groups_reply, delete_groups_request, deleted_group as deleted_group_codec}
use Rattle.kb_api_group.specs.declared.delete_groups.DeletedGroup.{DeletedGroup}
use Rattle.kb_api_group.specs.declared.delete_groups.DeleteGroupsRequest.{DeleteGroupsRequest}
use Rattle.kb_groups.specs.Calls as one
use Rattle.kb_coordinator.specs.declared.groups.Entry.{Entry}
use Rattle.kb_coordinator.specs.Calls.{deleted, has_members, is_there}
use Rattle.kb_coordinator.specs.Groups.{Groups, found, silent, without}
use Rattle.kb_topics.specs.Known.{has_committed}
use Rattle.kb_topics.specs.declared.fault.CatalogFault.{CatalogFault}
use Rattle.kb_topics.specs.declared.fault.CatalogFault.TheVariants as catalog
use Rattle.kb_store.proofs.Seen.{on_err}
use Rattle.kb_tenant_state.specs.Calls.{delete_group, group_deleted_unless}
use Rattle.kb_tenant_state.specs.Parts.{Seen}
use Rattle.kb_tenant_state.specs.Scene.{Scene, WhereHonest}
use Rattle.kb_tenant_state.specs.Steps.{IsStep}
use Rattle.kb_tenant_state.specs.Told.{IsCatalogWant}
use Rattle.kb_tenant_state.specs.World.{World}
use Rattle.kb_tenant.specs.Entries.{delete_groups_entries, within}
use Rattle.kb_tenant.specs.Told.{CatalogFailed, IsFaultOf, IsTold, IsWantCode}
use Rattle.kb_tenant.specs.Turns.{in_turn, AreServed}
use Rattle.kb_tenant.proofs.Acknowledging.{served_so}
use Rattle.kb_tenant.proofs.Wanted.{catalog_later, catalog_since, catalog_wants, code_so}
use Rattle.kb_tenant_api.specs.Acknowledged.{without_each, without_empty, AcknowledgesGroupDeletions, AreGroupsAfter, AreGroupsOf, HaveGone, IsGroupDeletionTold}
use Rattle.kb_tenant_api.specs.Deletions.{all_deleted, deleted_entry, deleted_group, deletions}
use Rattle.kb_tenant_api.specs.Replies.{IsAnswer, replies}
use Rattle.kb_tenant_api.specs.Serve.{of_delete, IsOutcome}
use Rattle.kb_tenant_api.specs.declared.answer.Answer.{Answer}
use Rattle.kb_tenant_api.specs.declared.answer.Answer.TheVariants as answers
use Rattle.kb_tenant.specs.declared.answer.Answer.TheVariants as plain

-- ---- one group

abbrev went : Result (Unit {0}) CatalogFault → Bool
went (Ok done) = true
went (Err fault) = false

abbrev fault_in : Result (Unit {0}) CatalogFault → CatalogFault
fault_in (Ok done) = catalog.Unknown
fault_in (Err fault) = fault

-- a group that is not there
gone_already : (id : List ℕ) (es : List Entry) → is_some (found id es) ≡ false → without id es ≡ es
unfolding found without
gone_already id [] none = refl
gone_already id (e ∷ es) none = by (bytes_eq e.id id) none (gone_already id es)
  where
    by : (b : Bool) → is_some (if b then Some e.group else found id es) ≡ false → (is_some (found id es) ≡ false → without id es ≡ es) → (if b then es else e ∷ without id es) ≡ e ∷ es
    by true h rest = absurd cc
    by false h rest = ap (λ l. e ∷ l) (rest h)

module _ (s : World × Groups) (id : List ℕ) where
  abbrev unlisted : Bool → (World × Groups) × ℤ
  unlisted d = if d then ((s.0, deleted id s.1), code_of codes.None) else (s, code_of codes.GroupIdNotFound)

  abbrev uncommitted : Bool → (World × Groups) × ℤ
  uncommitted c = if c then (all_deleted s id, code_of codes.None) else unlisted (is_there id s.1)

  abbrev memberless : Bool → (World × Groups) × ℤ
  memberless b = if b then (s, code_of codes.NonEmptyGroup) else uncommitted (has_committed id s.0.known.topics)

  abbrev named : Bool → (World × Groups) × ℤ
  named a = if a then (s, code_of codes.InvalidGroupId) else memberless (has_members id s.1)

  pub unnamed_is : (code : ℤ) → one.is_empty id ≡ true → code ≡ code_of codes.InvalidGroupId → (s, code) ≡ deleted_group s id
  unnamed_is code empty is = ap (λ c. (s, c)) is ∙ sym (ap named empty)

  pub members_is : (code : ℤ) → one.is_empty id ≡ false → has_members id s.1 ≡ true → code ≡ code_of codes.NonEmptyGroup → (s, code) ≡ deleted_group s id
  members_is code empty members is = ap (λ c. (s, c)) is ∙ sym (ap named empty ∙ ap memberless members)

  module _ (empty : one.is_empty id ≡ false) (members : has_members id s.1 ≡ false) where
    -- where it committed something
    pub committed_is : (v : World) (new : Groups) (code : ℤ) → (v, Ok tt) ≡ delete_group s.0 id → new ≡ deleted id s.1 → code ≡ code_of codes.None → ((v, new), code) ≡ deleted_group s id
    committed_is v new code made gone is = by (has_committed id s.0.known.topics) made ∙ sym (ap named empty ∙ ap memberless members)
      where
        by : (c : Bool) → (v, Ok tt) ≡ group_deleted_unless s.0 id (if c then None else Some catalog.Unknown) → ((v, new), code) ≡ uncommitted c
        by true h =
            let world : v ≡ (all_deleted s id).0 = ap (λ r. r.0) h in
            (λ i. ((world i, gone i), is i))
        by false h = absurd (false≢true (sym (ap (λ (r : World × Result (Unit {0}) CatalogFault). went r.1) h)))

    -- where it committed nothing, whether it is there or not
    pub uncommitted_is : (v : World) (new : Groups) (there : Bool) (code : ℤ) → (v, Err catalog.Unknown) ≡ delete_group s.0 id → new ≡ deleted id s.1 → there ≡ is_there id s.1
        → code ≡ code_of (if there then codes.None else codes.GroupIdNotFound) → ((v, new), code) ≡ deleted_group s id
    uncommitted_is v new there code made gone listed is = by (has_committed id s.0.known.topics) made ∙ sym (ap named empty ∙ ap memberless members)
      where
        either : (d : Bool) → is_there id s.1 ≡ d → code ≡ code_of (if d then codes.None else codes.GroupIdNotFound) → ((s.0, new), code) ≡ unlisted d
        either true at of = λ i. ((s.0, gone i), of i)
        either false at of =
            let same : deleted id s.1 ≡ s.1 = ap (λ es. record s.1 { groups = es }) (gone_already id s.1.groups at) in
            (λ i. ((s.0, (gone ∙ same) i), of i))

        by : (c : Bool) → (v, Err catalog.Unknown) ≡ group_deleted_unless s.0 id (if c then None else Some catalog.Unknown) → ((v, new), code) ≡ uncommitted c
        by true h = absurd (false≢true (ap (λ (r : World × Result (Unit {0}) CatalogFault). went r.1) h))
        by false h =
            let world : v ≡ s.0 = ap (λ r. r.0) h in
            (λ i. ((world i, new), code)) ∙ either (is_there id s.1) refl (subst (λ b. code ≡ code_of (if b then codes.None else codes.GroupIdNotFound)) listed is)

    -- the definition refuses for no other reason
    pub never_otherwise : (v : World) (fault : CatalogFault) → (fault ≡ catalog.Unknown → ⊥) → (v, Err fault) ≡ delete_group s.0 id → ⊥
    never_otherwise v fault other made = by (has_committed id s.0.known.topics) made
      where
        by : (c : Bool) → (v, Err fault) ≡ group_deleted_unless s.0 id (if c then None else Some catalog.Unknown) → ⊥
        by true h = false≢true (ap (λ (r : World × Result (Unit {0}) CatalogFault). went r.1) h)
        by false h = other (ap (λ (r : World × Result (Unit {0}) CatalogFault). fault_in r.1) h)

-- whatever was refused, some groups without members are gone, or none
pub gone_less : (id : List ℕ) (gs new : Groups) → has_members id gs ≡ false → new ≡ deleted id gs → new ≡ without_empty id gs
gone_less id gs new none is = is ∙ sym (ap (λ b. if b then gs else deleted id gs) none)

each_then : (ids : List (List ℕ)) (id : List ℕ) (gs : Groups) → without_each (ids ++ id ∷ []) gs ≡ without_empty id (without_each ids gs)
each_then [] id gs = refl
each_then (i ∷ ids) id gs = each_then ids id (without_empty i gs)

pub gone_none : (gs : Groups) → HaveGone gs gs
gone_none gs = ([], refl)

pub gone_more : (id : List ℕ) (old mid new : Groups) → HaveGone old mid → (new ≡ mid) ⊎ (new ≡ without_empty id mid) → HaveGone old new
gone_more id old mid new gone (inl same) = (gone.0, same ∙ gone.1)
gone_more id old mid new gone (inr less) = (gone.0 ++ id ∷ [], less ∙ ap (without_empty id) gone.1 ∙ sym (each_then gone.0 id old))

-- ---- what is told

pub entry_is : (w v : World) (gs new : Groups) (id text sent : List ℕ) (code carried : ℤ) → text ≡ id → sent ≡ text → carried ≡ code → ((v, new), code) ≡ deleted_group (w, gs) text
    → ((v, new), (let x : DeletedGroup = record { group_id = sent; error_code = carried } in x)) ≡ deleted_entry (w, gs) id
entry_is w v gs new id text sent code carried named_ sent_ carried_ made =
    (λ i. ((v, new), (let x : DeletedGroup = record { group_id = sent_ i; error_code = carried_ i } in x)))
    ∙ ap (λ (r : (World × Groups) × ℤ). (r.0, (let x : DeletedGroup = record { group_id = text; error_code = r.1 } in x))) made
    ∙ ap (deleted_entry (w, gs)) named_

pub deletion_told_so : (a b : Scene Seen) (gs new : Groups) (id text sent : List ℕ) (code carried : ℤ) → IsStep a b → text ≡ id → sent ≡ text → carried ≡ code
    → IsTold a b (((b.state.world, new), code) ≡ deleted_group (a.state.world, gs) text) (IsFaultOf (IsCatalogWant a b) code × (new ≡ gs))
    → WhereHonest a b (IsGroupDeletionTold (CatalogFailed a b) (a.state.world, gs) id (b.state.world, new) (record { group_id = sent; error_code = carried }))
deletion_told_so a b gs new id text sent code carried step one_ two same told honest agree =
    ⊎_elim
    (λ done. inl (entry_is a.state.world b.state.world gs new id text sent code carried one_ two same (done.met honest agree)))
    (λ refused. inr (ap (λ w. (w, new)) (refused.stays honest agree) ∙ ap (λ g. (a.state.world, g)) refused.want.1, (two ∙ one_, subst (IsWantCode (CatalogFailed a b)) (sym same) (catalog_wants a b code step honest agree refused.want.0))))
    told

-- where the store failed in a while it failed in a longer one
deletion_so : (P Q : Type 0) → (P → Q) → (s : World × Groups) (id : List ℕ) (t : World × Groups) (x : DeletedGroup) → IsGroupDeletionTold P s id t x → IsGroupDeletionTold Q s id t x
deletion_so P Q f s id t x = ⊎_elim (λ done. inl done) (λ refused. inr (refused.0, (refused.1.0, code_so P Q f x.error_code refused.1.1)))

module _ (a b d : Scene Seen) where
  pub deletions_before : IsStep b d → (ids : List (List ℕ)) (s t : World × Groups) (xs : List DeletedGroup)
      → AreServed (IsGroupDeletionTold (CatalogFailed a b)) s ids t xs → AreServed (IsGroupDeletionTold (CatalogFailed a d)) s ids t xs
  deletions_before step ids s t xs told =
      served_so (IsGroupDeletionTold (CatalogFailed a b)) (IsGroupDeletionTold (CatalogFailed a d))
      (λ p id q x. deletion_so (CatalogFailed a b) (CatalogFailed a d) (catalog_later a b d step) p id q x) s t ids xs told

  pub deletion_behind : IsStep a b → (s : World × Groups) (id : List ℕ) (t : World × Groups) (x : DeletedGroup)
      → IsGroupDeletionTold (CatalogFailed b d) s id t x → IsGroupDeletionTold (CatalogFailed a d) s id t x
  deletion_behind step = deletion_so (CatalogFailed b d) (CatalogFailed a d) (catalog_since a b d step)

-- ---- what is read and written

-- an id that was read can be written, and be recorded
pub deleted_fits : (id sent : List ℕ) (code : ℤ) → sent ≡ id → string.Fits id → deleted_group_codec.Fits (record { group_id = sent; error_code = code })
unfolding deleted_group_codec int
deleted_fits id sent code same fits = (subst string.Fits (sym same) fits, tt)

pub id_short : (id sent : List ℕ) → sent ≡ id → string.Fits id → length sent < 2 ^ 15
unfolding sized counted int utf8
id_short id sent same fits = subst (λ n. length n < 2 ^ 15) (sym same) fits.0.1.sfits

pub ids_fit : (q : DeleteGroupsRequest) → delete_groups_request.Fits q → (array string).Fits q.group_ids
unfolding delete_groups_request
ids_fit q fits = fits

-- behind the throttle time stands the array
pub reply_written : (results : List DeletedGroup) → int32.written (pos 0) ++ (array deleted_group_codec).written results ≡ delete_groups_reply.written (record { throttle_time_ms = pos 0; results = results })
unfolding delete_groups_reply
reply_written results = refl

-- ---- the groups after it

pub answered_groups : (key : ℤ) (old made new : Groups) (answer same : Answer) → same ≡ answer → AreGroupsOf key old made (Ok answer) new → AreGroupsAfter key old made same new
answered_groups key old made new answer same is (inl all) = inl all
answered_groups key old made new answer same is (inr gone) = inr (inr gone)

-- where the request could not be read, or memory was refused, the connection is shut
pub refused_groups : (key : ℤ) (old made new : Groups) (answer : Answer) (fault : ReadFault) → answer ≡ answers.Plain plain.Shut → AreGroupsOf key old made (Err fault) new → AreGroupsAfter key old made answer new
refused_groups key old made new answer (faults.Wire w) shut (inl all) = inl all
refused_groups key old made new answer faults.Memory shut (inl (inl all)) = inl all
refused_groups key old made new answer faults.Memory shut (inl (inr stays)) = inr (inl (stays, shut))
refused_groups key old made new answer fault shut (inr gone) = inr (inr gone)

-- ---- a request

-- a request, where the last replies were forgotten first
pub request_deletes : (id : ℤ) (w after : World) (gs quiet new : Groups) (r : DeleteGroupsRequest) (answer : Answer) → quiet ≡ silent gs → (after, new) ≡ (in_turn deleted_entry (w, quiet) r.group_ids).0
    → IsAnswer id (replies (delete_groups_reply.written (deletions (in_turn deleted_entry (w, quiet) r.group_ids).1))) answer → IsOutcome id (of_delete w gs r) after new [] answer
request_deletes id w after gs quiet new r answer is made h = (
  ap (λ s. s.0) made ∙ ap (λ x. (in_turn deleted_entry (w, x) r.group_ids).0.0) is,
  ap (λ s. s.1) made ∙ ap (λ x. (in_turn deleted_entry (w, x) r.group_ids).0.1) is,
  refl,
  subst (λ x. IsAnswer id (replies (delete_groups_reply.written (deletions (in_turn deleted_entry (w, x) r.group_ids).1))) answer) is h,
)

-- a DeleteGroups that changed nothing, and forgot the last replies
pub deletions_untouched : (a : Scene Seen) (limit : Option ℕ) (id : ℤ) (body : List ℕ) (gs quiet : Groups) → quiet ≡ silent gs
    → WhereHonest a a (AcknowledgesGroupDeletions (CatalogFailed a a) limit id gs a.state.world body a.state.world quiet (answers.Plain plain.Shut))
deletions_untouched a limit id body gs quiet is honest agree =
    let same : (let t : World × Groups = (a.state.world, quiet) in t) ≡ (a.state.world, silent gs) = ap (λ x. (a.state.world, x)) is in (
      λ q read. (0, ([], same)),
      on_err (within limit delete_groups_entries (whole delete_groups_request body)) (refl, same),
    )
