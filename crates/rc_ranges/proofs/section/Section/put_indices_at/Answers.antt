use Rattle.std.proofs.Common.{sym}
use Rattle.rc_ranges.proofs.WithinLemmas.{nothing_put}
use Rattle.rc_ranges.specs.inside.Entries.{joined}
use Rattle.rc_ranges.proofs.section.Section.put_indices_at.Goals as goal

pub returns-else-is_in_range : goal.returns-else-is_in_range
returns-else-is_in_range c =
    nothing_put c.args.id c.self.inside.ids (joined c.self.inside.groups) c.args.self.now
    c.args.indices.now.items c.self.view_is (sym c.if-is_in_range.ensures) c.self.invariant
