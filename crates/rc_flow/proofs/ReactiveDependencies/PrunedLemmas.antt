-- The next scope of the table is put after those that were pruned.
use Rattle.std.proofs.Common.{◌≡◌, ◌∙◌, ◌+◌, ◌<◌, ◌^◌, ℕ, List, [], ◌∷◌, ◌++◌, drop, filter, get_or, length}
use Rattle.std.proofs.Common.{append_assoc, arith, length-append, sym, ap}
use Rattle.std.proofs.lemmas.List.{drop_more}
use Rattle.rc_hir.specs.Model.{ReactiveScope, ReactiveScopeDependency}
use Rattle.rc_names.specs.Numbers.{ScopeId, to_id}
use Rattle.rc_flow.specs.declared.spread.Spread.{Spread}
use Rattle.rc_flow.specs.inside.Pruned.{pruned, pruned_from}
use Rattle.rc_flow.specs.inside.Spread.{stays}

-- what holds where the scopes up to a place are done
abbrev pub IsDone : Spread → List ReactiveScope → List ReactiveScope → ℕ → Type 0
IsDone s items done place = (length done ≡ place) × (length items < 2 ^ 32)
    × (done ++ pruned_from s place (drop place items) ≡ pruned_from s 0 items)

pub next_done : (s : Spread) (items done new : List ReactiveScope) (place : ℕ) (scope copy : ReactiveScope)
    (id : ScopeId) (left : List ReactiveScopeDependency) → place < length items → scope ≡ get_or items place scope
    → id.0 ≡ length done → left ≡ filter (stays s id) scope.dependencies
    → copy ≡ record scope { dependencies = left } → new ≡ done ++ copy ∷ [] → IsDone s items done place
    → IsDone s items new (place + 1)
next_done s items done new place scope copy id left below at number kept made put so_far =
    let rest = pruned_from s (place + 1) (drop (place + 1) items) in
    let same : id ≡ to_id place = ap to_id (number ∙ so_far.0) in
    let next : drop place items ≡ scope ∷ drop (place + 1) items =
    drop_more items place scope below ∙ ap (λ x. x ∷ drop (place + 1) items) (sym at)
    in
    let is : copy ≡ pruned s (to_id place) scope =
    made ∙ ap (λ deps. record scope { dependencies = deps })
    (kept ∙ ap (λ n. filter (stays s n) scope.dependencies) same)
    in
    let long : length new ≡ length done + 1 = ap length put ∙ length-append done (copy ∷ []) in
    let count = so_far.0 in (
      omega (arith, long, count),
      so_far.1,
      ap (λ scopes. scopes ++ rest) put ∙ append_assoc done (copy ∷ []) rest
          ∙ ap (λ x. done ++ x ∷ rest) is ∙ ap (λ scopes. done ++ pruned_from s place scopes) (sym next) ∙ so_far.2,
    )
