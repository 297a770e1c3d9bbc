-- The counts of a graph and of its result, and their lines.
use Rattle.std.specs.Prelude.{ℕ, ◌+◌, Bool, true, false, List, codes, count_by, decimal, length}
use Rattle.rc_hir.specs.Model.{HirFunction}
use Rattle.rc_tree.specs.Collected.{Contributions, collected}
use Rattle.rc_tree.specs.Joining.{Joining}
use Rattle.rc_tree.specs.Model.{ReactiveFunction}
use Rattle.rc_tree.specs.declared.fate.Fate.{Fate}
use Rattle.rc_tree.specs.declared.fate.Fate.TheVariants as fates
use Rattle.rc_tree.specs.declared.fate.ScopeFate.{ScopeFate}
use Rattle.rc_lines.specs.declared.counts.FateKind.{FateKind}
use Rattle.rc_lines.specs.declared.counts.FateKind.TheVariants as kinds
use Rattle.rc_lines.specs.LineText.{◌&◌, line}

-- numbers, added
abbrev pub sums : Joining ℕ
sums = record { nothing = 0; both = λ first second. first + second }

-- Each statement counts once, whatever its depth: a row, a terminal, with a label or without one, and a scope block of
-- either kind.
abbrev pub statement_parts : Contributions ℕ
statement_parts = record {
  joining = sums;
  row = λ x. 1;
  value = λ id x. 0;
  place = λ id x. 0;
  returned = λ id x. 0;
  jump = λ target. 0;
  label = λ label. 1;
  scope = λ scope inside. 1 + inside;
  pruned_scope = λ scope inside. 1 + inside;
}

-- the number of statements of a function
abbrev pub statement_count : ReactiveFunction → ℕ
statement_count func = collected statement_parts func.body

-- a scope has a fate of this kind
abbrev pub is_of_kind : FateKind → Fate → Bool
is_of_kind kinds.Kept fates.Kept = true
is_of_kind kinds.NotEscaping fates.NotEscaping = true
is_of_kind kinds.Unused fates.Unused = true
is_of_kind kinds.Merged (fates.MergedInto scope) = true
is_of_kind kinds.Dissolved (fates.DissolvedInto scope) = true
is_of_kind kinds.AlwaysInvalidating fates.AlwaysInvalidating = true
is_of_kind kind fate = false

-- the number of scopes with a fate of this kind
abbrev pub fate_count : FateKind → List ScopeFate → ℕ
fate_count kind = count_by (λ entry. is_of_kind kind entry.fate)

-- a number after its name
abbrev pub count_line : List ℕ → ℕ → List ℕ
count_line name count = line 0 (name & codes " " & decimal count)

-- the sizes of a graph and of the function that it is answered by
abbrev pub size_lines : HirFunction → ReactiveFunction → List ℕ
size_lines hir func =
    count_line (codes "blocks") (length hir.body.blocks) & count_line (codes "statements") (statement_count func)

-- the counts of fates, in two halves
abbrev pub first_fate_lines : List ScopeFate → List ℕ
first_fate_lines fates =
    count_line (codes "kept") (fate_count kinds.Kept fates)
    & count_line (codes "not-escaping") (fate_count kinds.NotEscaping fates)
    & count_line (codes "unused") (fate_count kinds.Unused fates)

abbrev pub last_fate_lines : List ScopeFate → List ℕ
last_fate_lines fates =
    count_line (codes "merged") (fate_count kinds.Merged fates)
    & count_line (codes "dissolved") (fate_count kinds.Dissolved fates)
    & count_line (codes "always-invalidating") (fate_count kinds.AlwaysInvalidating fates)

-- the lines of a graph, of the function returned for it, and of the fates of its scopes
abbrev pub count_lines : HirFunction → ReactiveFunction → List ScopeFate → List ℕ
count_lines hir func fates = size_lines hir func & first_fate_lines fates & last_fate_lines fates
