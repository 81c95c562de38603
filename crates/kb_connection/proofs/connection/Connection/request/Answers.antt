use Rattle.std.proofs.Common.{sym, ◌∙◌, ap, w16, w32, rules, FitsSigned}
use Rattle.std.proofs.lemmas.Int.{to_z-of_z}
use Rattle.std.specs.Option.{is_some}
use Rattle.kb_isolation_spec.specs.Session.{in_front}
use Rattle.kb_isolation_spec.specs.Machine.{Line}
use Rattle.kb_isolation_spec.specs.Requests.{request}
use Rattle.kb_connection.proofs.Fronts.{own_unless_frame, own_unless_another, is_handed, is_numbered}
use Rattle.kb_connection.specs.View.{stage_with_wait}
use Rattle.kb_connection.proofs.Limits.{framed-open}
use Rattle.kb_connection.proofs.connection.Connection.request.Goals as goal

pub returns-in_default : goal.returns-in_default
returns-in_default c = record {
  numbered = tt;
  none = own_unless_frame c.args.setup.now _ _ _ (ap (λ (l : Line). in_front l.session) c.self.view_is) c.next.ensures c.in_default.not-Frame;
  asked = tt;
  number = tt;
  unshut = tt;
}

pub returns-in-Another-clause-asked : goal.returns-in-Another-clause-asked
returns-in-Another-clause-asked c =
    let key : FitsSigned w16 c.in-Another.key = search rules in
    let version : FitsSigned w16 c.in-Another.version = search rules in
    is_handed c.args.setup.now _ _ _ _ _ _ _ _ _ _ _ (ap (λ (l : Line). in_front l.session) c.self.view_is) c.in-Frame.ensures c.as_slice-2.ensures (c.in_ok-head.ensures ∙ ap (λ v. request v c.as_slice-2.result.now) (c.as_slice.ensures ∙ c.versions.ensures.versions)) c.in-Another.is (to_z-of_z w16 _ key) (to_z-of_z w16 _ version) c.as_slice-in-Another.ensures

pub returns-in-Another-clause-numbered : goal.returns-in-Another-clause-numbered
returns-in-Another-clause-numbered c =
    let id : FitsSigned w32 c.in_ok-head.field-0.head.correlation_id = search rules in
    is_numbered c.args.setup.now c.args.self.now.session _ _ _ _ _ (ap (λ (l : Line). in_front l.session) c.self.view_is) c.in-Frame.ensures c.as_slice-2.ensures (c.in_ok-head.ensures ∙ ap (λ v. request v c.as_slice-2.result.now) (c.as_slice.ensures ∙ c.versions.ensures.versions)) (to_z-of_z w32 _ id)

pub returns-in_default-asked : goal.returns-in_default-asked
returns-in_default-asked c = record {
  numbered = tt;
  none = own_unless_another c.args.setup.now _ _ _ _ _ (ap (λ (l : Line). in_front l.session) c.self.view_is) c.in-Frame.ensures c.as_slice-2.ensures (c.in_ok-head.ensures ∙ ap (λ v. request v c.as_slice-2.result.now) (c.as_slice.ensures ∙ c.versions.ensures.versions)) c.in_default-asked.not-Another;
  asked = tt;
  number = tt;
  unshut = tt;
}

pub returns-in-Another-clause-unshut : goal.returns-in-Another-clause-unshut
returns-in-Another-clause-unshut c =
    ap (λ (l : Line). l.session.shut) (sym c.self.view_is)
    ∙ framed-open c.self.inside.limit c.self.inside.unread c.in-Frame.frame (stage_with_wait c.self.inside.stage) (is_some c.self.inside.shut) c.self.invariant c.in-Frame.ensures
