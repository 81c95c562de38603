use Rattle.std.proofs.Common.{subst, sym, ◌≡◌, true, ◌∙◌}
use Rattle.kb_node.specs.Commits.{may_tell}
use Rattle.kb_node.specs.Cores.{seen}
use Rattle.kb_node.specs.Known.{telling}
use Rattle.kb_node.specs.Moves.{GoesTellingWith}
use Rattle.kb_node.specs.declared.commits.Commits.{Commits}
use Rattle.kb_node.proofs.Telling.{telling_then}
use Rattle.kb_node.proofs.edge.Edge.tell.Goals as goal

pub loop-number-preserved : goal.loop-number-preserved
loop-number-preserved g c = (
  subst (λ x. may_tell x ≡ true) (sym c.tell_one.ensures.commits) c.loop-number.invariant.0,
  c.tell_one.ensures.commits ∙ c.loop-number.invariant.1,
  telling_then c.loop-number.invariant.2
      (subst (λ (x : Commits). GoesTellingWith g.S.Store.disk (telling g.S.Store.settled g.S.Store.disk g.S.Store.loss x) g.R.Stream.Write.contents g.R.Stream.Read.remaining
      (seen c.loop-number.self.host c.loop-number.self.sockets.items) (seen c.tell_one.new.self.host c.tell_one.new.self.sockets.items))
      c.loop-number.invariant.1 c.tell_one.ensures.tells),
)
