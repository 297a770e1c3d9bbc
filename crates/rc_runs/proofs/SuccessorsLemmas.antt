-- A move leads to a successor.
use Rattle.std.proofs.Common.{◌≡◌, Bool, false, List, [], ◌∷◌, Some, None, ◌||◌, sym, ap, ◌∙◌, subst}
use Rattle.std.proofs.lemmas.Bool.{or_parts}
use Rattle.std.proofs.lemmas.List.Folds.{list_any-append}
use Rattle.std.specs.Prelude.{if◌then◌else◌}
use Rattle.std.specs.List.{list_any}
use Rattle.std.specs.Option.{option_to_list}
use Rattle.rc_names.specs.Numbers.{BlockId}
use Rattle.rc_hir.specs.Model.{Case}
use Rattle.rc_hir.specs.Successors.{Moves, blocks, case_blocks, block_past}
use Rattle.rc_runs.specs.Event.{Event}
use Rattle.rc_runs.specs.GraphRun.{InCases, first, later, Move, goes_to, then_arm, else_arm, to_case, past_cases, goes_on}
use Rattle.rc_runs.specs.GraphRun.{throws}

module _ (p : BlockId → Bool) where
  case_passes : {case : Case} {cases : List Case} → InCases case cases → list_any p (case_blocks cases) ≡ false
      → p case.block ≡ false
  case_passes (first {other = other} {cases = cases} e) h =
      subst (λ (c : Case). p c.block ≡ false) (sym e) (or_parts (p other.block) (list_any p (case_blocks cases)) h).0
  case_passes (later {other = other} {cases = cases} m) h =
      case_passes m (or_parts (p other.block) (list_any p (case_blocks cases)) h).1

  alone : {key : BlockId} → list_any p (key ∷ []) ≡ false → p key ≡ false
  alone {key = key} h = (or_parts (p key) false h).0

  -- a test that fails at all blocks to which these moves lead fails at that of a move
  pub fails_there : {shape : Moves} {events : List Event} {key : BlockId} → Move shape events key
      → list_any p (blocks shape) ≡ false → p key ≡ false
  fails_there goes_to h = alone h
  fails_there (then_arm {consequent = a} {alternate = b}) h = (or_parts (p a) (p b || false) h).0
  fails_there (else_arm {consequent = a} {alternate = b}) h = alone (or_parts (p a) (p b || false) h).1
  fails_there (to_case {cases = cases} {fallthrough = f} {case = case} m c e) h =
      subst (λ k. p k ≡ false) (sym e) (case_passes m (or_parts _ _
      (sym (list_any-append p (case_blocks cases) (option_to_list (block_past cases f))) ∙ h)).0)
  fails_there (past_cases {cases = cases} {fallthrough = f} e) h =
      let last : list_any p (option_to_list (block_past cases f)) ≡ false = (or_parts _ _
      (sym (list_any-append p (case_blocks cases) (option_to_list (block_past cases f))) ∙ h)).1 in
      alone (sym (ap (λ b. list_any p (option_to_list (if b then None else Some f))) e) ∙ last)
  fails_there (goes_on {continuation = a} {handler = b}) h = (or_parts (p a) (list_any p (option_to_list b)) h).0
  fails_there (throws {continuation = a} {handler = b}) h = alone (or_parts (p a) (p b || false) h).1
