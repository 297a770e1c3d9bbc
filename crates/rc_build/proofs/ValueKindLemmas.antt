-- What value terminals have in common, whatever their kind.
use Rattle.std.proofs.Common.{◌≡◌, false, [], ◌∷◌, Option, None, refl, ap, ◌∙◌, subst, arith}
use Rattle.rc_names.specs.Numbers.{BlockId, EvaluationOrder, is_among}
use Rattle.rc_names.specs.declared.span.Span.{Span}
use Rattle.rc_hir.specs.Terminal.{evaluation_order}
use Rattle.rc_hir.specs.Model.{Terminal, HirFunction}
use Rattle.rc_runs.specs.LastRow.{ends_value}
use Rattle.rc_build.specs.declared.builder.Marks.{Marks}
use Rattle.rc_build.specs.declared.value_terminals.ValueKind.{ValueKind}
use Rattle.rc_build.specs.declared.value_terminals.ValueKind.TheVariants as kinds
use Rattle.rc_build.specs.declared.value_terminals.ValueTerminal.{ValueTerminal}
use Rattle.rc_build.specs.References.{referenced_blocks, value_references}
use Rattle.rc_build.specs.inside.CanBuild.{AreReferenced}
use Rattle.rc_build.specs.inside.Throws.{may_throw}
use Rattle.rc_build.specs.inside.ValueKinds.{terminal_of, terminal_with}
use Rattle.rc_build.specs.inside.ValueTerminals.{CanBuildNested}
use Rattle.rc_build.specs.inside.Values.{CanBuildValue}
use Rattle.rc_build.proofs.LoopKindLemmas.{among_first}
use Rattle.rc_build.proofs.CanBuildTurnsLemmas.{value_can}

-- the block at which a value terminal begins
abbrev pub begins_at : ValueKind → BlockId
begins_at (kinds.Sequence block) = block
begins_at (kinds.Ternary test) = test
begins_at (kinds.Logical operator test) = test
begins_at (kinds.Optional optional test) = test

-- it doesn't end a value, and it refers to its first block and to its fallthrough as to values
pub record IsValueTerminal (terminal : Terminal) (first fallthrough : BlockId) (id : EvaluationOrder) : Type 0 where
  pub order : evaluation_order terminal ≡ id
  pub ends : ends_value terminal ≡ false
  pub stays : may_throw terminal ≡ None
  pub referenced : referenced_blocks terminal ≡ first ∷ fallthrough ∷ []
  pub valued : value_references terminal ≡ first ∷ fallthrough ∷ []

with_facts : (kind : ValueKind) (fallthrough : BlockId) (id : EvaluationOrder) (span : Option Span)
    → IsValueTerminal (terminal_with kind fallthrough id span) (begins_at kind) fallthrough id
with_facts (kinds.Sequence block) fallthrough id span =
    record { order = refl; ends = refl; stays = refl; referenced = refl; valued = refl }
with_facts (kinds.Ternary test) fallthrough id span =
    record { order = refl; ends = refl; stays = refl; referenced = refl; valued = refl }
with_facts (kinds.Logical operator test) fallthrough id span =
    record { order = refl; ends = refl; stays = refl; referenced = refl; valued = refl }
with_facts (kinds.Optional optional test) fallthrough id span =
    record { order = refl; ends = refl; stays = refl; referenced = refl; valued = refl }

pub value_facts : (terminal : ValueTerminal)
    → IsValueTerminal (terminal_of terminal) (begins_at terminal.kind) terminal.fallthrough terminal.id
value_facts terminal = with_facts terminal.kind terminal.fallthrough terminal.id terminal.span

-- the value from its first block on can be built
pub nested_can : {hir : HirFunction} {marks : Marks} {terminal : ValueTerminal} → CanBuildNested hir marks terminal
    → CanBuildValue hir marks (begins_at terminal.kind)
nested_can {hir} {marks} {terminal} can =
    let facts = value_facts terminal in
    let first = begins_at terminal.kind in
    value_can first (first ∷ terminal.fallthrough ∷ []) can.marked
    (subst (AreReferenced hir marks.used) facts.referenced can.referenced) (λ other. omega arith) can.here
    (ap (λ z. is_among z first) facts.valued ∙ among_first first (terminal.fallthrough ∷ []))
