-- Where a list is built: from which graph, and in which context.
use Rattle.std.specs.Prelude.{Bool, false, Option, Some, None, is_some, if◌then◌else◌}
use Rattle.rc_names.specs.Numbers.{BlockId}
use Rattle.rc_hir.specs.Model.{HirFunction, Environment}
use Rattle.rc_tree.specs.Model.{ReactiveStatement, ReactiveLabel, ReactiveTerminal}
use Rattle.rc_tree.specs.declared.statement.ReactiveStatement.TheVariants as reactive
use Rattle.rc_runs.specs.declared.frames.Frame.{Frame}
use Rattle.rc_build.specs.declared.builder.Builder.{Builder}
use Rattle.rc_build.specs.declared.builder.Site.{Site}
use Rattle.rc_runs.specs.Frames.{fall_block}
use Rattle.rc_runs.specs.ListContext.{ListContext, inside, marked}

-- what a list is built from, and where it is: the graph with its environment, and the context of the list
pub record Setting : Type 0 where
  pub hir : HirFunction
  pub env : Environment
  pub context : ListContext

-- the setting of a list that the builder puts at the site
abbrev pub setting_of : Builder → Site → Setting
setting_of builder site = record {
  hir = builder.hir.now;
  env = builder.env.now;
  context = record { next = site.next; frames = builder.frames; handler = site.handler };
}

-- the setting of a part of a statement, whose fallthrough is opened or not
abbrev pub part_setting : Option BlockId → Frame → Setting → Setting
part_setting opened frame setting =
    record { hir = setting.hir; env = setting.env; context = inside (is_some opened) frame setting.context }

-- the setting of the cases of a switch: a mark is around them
abbrev pub marked_setting : Setting → Setting
marked_setting setting = record { hir = setting.hir; env = setting.env; context = marked setting.context }

-- the site of the part
abbrev pub site_inside : Option BlockId → Frame → BlockId → Site → Site
site_inside opened frame part site = record {
  block = part;
  next = if is_some opened then fall_block frame else site.next;
  handler = site.handler;
}

-- the site of what a handler protects
abbrev pub site_protected : BlockId → Site → Site
site_protected handler site = record { block = site.block; next = site.next; handler = Some handler }

-- the site of another block in the same list
abbrev pub site_at : BlockId → Site → Site
site_at block site = record { block = block; next = site.next; handler = site.handler }

-- the fallthrough, where it is opened
abbrev pub open_block : Bool → BlockId → Option BlockId
open_block opened fallthrough = if opened then Some fallthrough else None

-- the label of a statement: its fallthrough where that is opened
abbrev pub label_at : Option BlockId → Option ReactiveLabel
label_at None = None
label_at (Some fallthrough) = Some (record { id = fallthrough; implicit = false })

-- the statement of a terminal with a label
abbrev pub terminal_statement : ReactiveTerminal → Option ReactiveLabel → ReactiveStatement
terminal_statement terminal label = reactive.Terminal (record { terminal = terminal; label = label })
