-- How the statements of a tree are counted, one part after the other.
use Rattle.std.proofs.Common.{◌≡◌, ◌∙◌, ℕ, ◌+◌, ◌<◌, List, ◌∷◌, length, drop, get_or, sym, ap, arith}
use Rattle.std.proofs.lemmas.List.{drop_more}
use Rattle.rc_names.specs.Numbers.{EvaluationOrder}
use Rattle.rc_tree.proofs.CollectedLemmas.{collected-case, collected_forms}
use Rattle.rc_tree.specs.Collected.{collected_case, collected_cases, collected_if}
use Rattle.rc_tree.specs.declared.statement.ReactiveStatement.TheViews.{out-ReactiveSwitchCase}
use Rattle.rc_tree.specs.declared.statement.ReactiveStatement.TheViews.{roll-out-ReactiveSwitchCase}
use Rattle.rc_tree.specs.Model.{ReactiveSwitchCase}
use Rattle.rc_lines.specs.Counts.{statement_parts as parts}

-- the statements of the next case are added
pub added-case : (count new all : ℕ) (cases : List ReactiveSwitchCase) (place : ℕ) (case : ReactiveSwitchCase)
    (id : EvaluationOrder) → place < length cases → case ≡ get_or cases place case
    → new ≡ count + collected_if parts (out-ReactiveSwitchCase case).block
    → count + collected_cases parts id (drop place cases) ≡ all
    → new + collected_cases parts id (drop (place + 1) cases) ≡ all
added-case count new all cases place case id below at here so_far =
    let inner = collected_if parts (out-ReactiveSwitchCase case).block in
    let rest = collected_cases parts id (drop (place + 1) cases) in
    let next : drop place cases ≡ case ∷ drop (place + 1) cases =
    drop_more cases place case below ∙ ap (λ x. x ∷ drop (place + 1) cases) (sym at)
    in
    let held : collected_case parts case id ≡ 0 + inner =
    ap (λ x. collected_case parts x id) (sym (roll-out-ReactiveSwitchCase case))
    ∙ collected-case parts (out-ReactiveSwitchCase case).test (out-ReactiveSwitchCase case).block id
    in
    let whole : collected_cases parts id (drop place cases) ≡ collected_case parts case id + rest =
    ap (collected_cases parts id) next
    in
    omega (arith, here, held, whole, so_far)

-- with these `search` follows the statements through the forms of a tree
pub ruleset counting = (collected_forms)
