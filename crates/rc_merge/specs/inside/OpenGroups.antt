-- The group and the list at hand, as the code holds them.
use Rattle.std.specs.Prelude.{[], Option, None, Some}
use Rattle.std.specs.Option.{option_map}
use Rattle.rc_hir.specs.Model.{Environment, ReactiveScope}
use Rattle.rc_merge.specs.LastUses.{LastUses}
use Rattle.rc_merge.specs.declared.group.Group.{Group}
use Rattle.rc_merge.specs.declared.list.MergedSoFar.{MergedSoFar}
use Rattle.rc_merge.specs.declared.tables.Tables.{Tables}
use Rattle.rc_merge.specs.inside.Indexed.{IsIndexed, current}
use Rattle.rc_merge.specs.inside.ListSteps.{Going, Open}
use Rattle.rc_tree.specs.Model.{ReactiveScopeBlock}

-- the group that a scope block begins
abbrev pub begun : ReactiveScope → ReactiveScopeBlock → Open
begun scope block = record {
  head = record { number = block.scope; own = scope };
  inside = block.instructions.statements;
  rows = [];
  names = [];
}

-- what a held group is: its head has the declarations that are held beside it
abbrev pub opened : Group → Open
opened group = record {
  head = record { number = group.number; own = record group.head { declarations = current group.declared } };
  inside = group.inside;
  rows = group.rows;
  names = group.names;
}

-- how far the list has come, with the tables
abbrev pub going : MergedSoFar → Tables → Going
going list tables = record {
  done = list.done;
  open_group = option_map opened list.group;
  scopes = tables.scopes;
  copies = tables.copies;
  log = tables.log;
}

module _ (env : Environment) (uses : LastUses) where
  -- the head's declarations are indexed
  abbrev pub IsHeld : Group → Type 0
  IsHeld group = IsIndexed env uses group.declared

  abbrev pub IsHeldIf : Option Group → Type 0
  IsHeldIf None = Unit {0}
  IsHeldIf (Some group) = IsHeld group
