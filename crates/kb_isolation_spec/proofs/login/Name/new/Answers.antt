use Rattle.std.proofs.Common.{refl}
use Rattle.kb_isolation_spec.proofs.Names.{put-in-place, put-kept}
use Rattle.kb_isolation_spec.proofs.login.Name.new.Goals as goal

pub invariant_of-result : goal.invariant_of-result
invariant_of-result c = put-in-place _ c.args.name.now _ _ c.min-len.ensures c.copy_from_slice.ensures.after refl

pub returns : goal.returns
returns c = put-kept _ c.args.name.now _ _ c.min-len.ensures c.copy_from_slice.ensures.after
