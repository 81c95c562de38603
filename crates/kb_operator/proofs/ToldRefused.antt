-- What is told of refusals.
use Rattle.std.proofs.Common.{◌≡◌, ◌∙◌, ◌-◌, ℕ, List, ap}
use Rattle.kb_operator.specs.declared.journal.Journal.{Journal}
use Rattle.kb_operator.specs.declared.journal.Tenant.{Tenant}
use Rattle.kb_operator.specs.Refused.{BrokerCounts, in_lines, of_all, refused_lines, refused_texts}

-- the lines that are due, where each part of them is that of a journal
pub due_refused : {T : Type 0} (c : BrokerCounts) (j : Journal T) (unbound disk : ℕ) (whose : List ℕ) (ts : List Tenant)
    → unbound ≡ c.unbound - j.unbound.told → disk ≡ c.disk - j.disk.told → whose ≡ of_all j.tenants.items → ts ≡ j.tenants.items
    → refused_lines c.refused unbound disk whose (in_lines ts) ≡ refused_texts c j
due_refused c j unbound disk whose ts one two three four =
    ap (λ n. refused_lines c.refused n disk whose (in_lines ts)) one
    ∙ ap (λ n. refused_lines c.refused (c.unbound - j.unbound.told) n whose (in_lines ts)) two
    ∙ ap (λ w. refused_lines c.refused (c.unbound - j.unbound.told) (c.disk - j.disk.told) w (in_lines ts)) three
    ∙ ap (λ us. refused_lines c.refused (c.unbound - j.unbound.told) (c.disk - j.disk.told) (of_all j.tenants.items) (in_lines us)) four
