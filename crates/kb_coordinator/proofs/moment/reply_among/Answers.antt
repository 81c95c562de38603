use Rattle.std.proofs.Common.{◌∙◌, ap, arith, ltb, rules, sym}
use Rattle.std.proofs.lemmas.Bool.{eq-eqb, ne_eqb}
use Rattle.std.proofs.lemmas.Bool.Decides.{nat_tests}
use Rattle.std.proofs.lemmas.List.Sorted.{IsPartitionPoint-from_clause, IsPartitionedBy-ltb}
use Rattle.std.specs.Option.{option_copied}
use Rattle.kb_groups.specs.declared.reply.Release.{Release}
use Rattle.kb_coordinator.proofs.Lists.{at_index}
use Rattle.kb_coordinator.proofs.Steps.{among_from, none_first, one_first, other_first}
use Rattle.kb_coordinator.proofs.moment.reply_among.Goals as goal

pub returns-in_err-release : goal.returns-in_err-release
returns-in_err-release c =
    let rs = c.args.releases.now in
    let parted = IsPartitionedBy-ltb (λ (r : Release). r.connection) rs c.args.connection c.requires in
    let point = IsPartitionPoint-from_clause (λ (r : Release). ltb r.connection c.args.connection) _ _ c.partition_point-place.ensures.partitioned parted (λ a r q k. search rules) in
    let first = among_from c.args.connection c.partition_point-place.result rs c.partition_point-place.ensures.bound point c.requires in
    ap option_copied c.from_residual.ensures ∙ none_first c.args.connection c.partition_point-place.result rs (let past = c.in_err-release.ensures.lookup.0 in grind (arith, nat_tests, past)) ∙ sym first

pub returns-then-release-connection : goal.returns-then-release-connection
returns-then-release-connection c =
    let rs = c.args.releases.now in
    let parted = IsPartitionedBy-ltb (λ (r : Release). r.connection) rs c.args.connection c.requires in
    let point = IsPartitionPoint-from_clause (λ (r : Release). ltb r.connection c.args.connection) _ _ c.partition_point-place.ensures.partitioned parted (λ a r q k. search rules) in
    let first = among_from c.args.connection c.partition_point-place.result rs c.partition_point-place.ensures.bound point c.requires in
    one_first c.args.connection c.partition_point-place.result rs c.in_ok-release.release.now (at_index rs _ _ (let within = c.in_ok-release.ensures.lookup.0 in grind (arith, nat_tests, within)) c.in_ok-release.ensures.lookup.1) (eq-eqb _ _ c.if-release-connection.true) ∙ sym first

pub returns-else-release-connection : goal.returns-else-release-connection
returns-else-release-connection c =
    let rs = c.args.releases.now in
    let parted = IsPartitionedBy-ltb (λ (r : Release). r.connection) rs c.args.connection c.requires in
    let point = IsPartitionPoint-from_clause (λ (r : Release). ltb r.connection c.args.connection) _ _ c.partition_point-place.ensures.partitioned parted (λ a r q k. search rules) in
    let first = among_from c.args.connection c.partition_point-place.result rs c.partition_point-place.ensures.bound point c.requires in
    other_first c.args.connection c.partition_point-place.result rs c.in_ok-release.release.now (at_index rs _ _ (let within = c.in_ok-release.ensures.lookup.0 in grind (arith, nat_tests, within)) c.in_ok-release.ensures.lookup.1) (ne_eqb _ _ c.if-release-connection.false) ∙ sym first
