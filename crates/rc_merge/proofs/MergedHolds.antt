-- What holds of a list of statements holds of the merged list, if it is a fact of each statement alone, and of the
-- inside of each scope block.
use Rattle.std.proofs.Common.{List, [], ◌∷◌, ◌++◌, Bool, true, false, Option, None, Some, map, sym, subst}
use Rattle.rc_hir.specs.Model.{Environment, ReactiveScope}
use Rattle.rc_merge.proofs.RestLemmas.{IsNoBlock, rolled_back, row_no_block}
use Rattle.rc_merge.specs.Groups.{joins_at}
use Rattle.rc_merge.specs.Joining.{Copies}
use Rattle.rc_merge.specs.LastUses.{LastUses}
use Rattle.rc_merge.specs.MergedList.{Rest, ends_group, merged_list, met_block, passed_over, pulled_of, rest_at, rest_by}
use Rattle.rc_merge.specs.Places.{Item, Passed, Block, Other, item_of_row, scope_at}
use Rattle.rc_tree.specs.Unrolled.{UnrolledStatement}
use Rattle.rc_tree.specs.Model.{ReactiveInstruction, ReactiveScopeBlock, ReactiveStatement}
use Rattle.rc_tree.specs.declared.statement.ReactiveStatement.{out-ReactiveStatement, roll-ReactiveStatement}
use Rattle.rc_tree.specs.declared.statement.ReactiveStatement.TheOpen as layer
use Rattle.rc_tree.specs.declared.statement.ReactiveStatement.TheVariants as reactive

-- a fact of the statements of a list
pub record IsOfStatements (Holds : List ReactiveStatement → Type 0) : Type 0 where
  pub nothing : Holds []
  pub both : (xs ys : List ReactiveStatement) → Holds xs → Holds ys → Holds (xs ++ ys)
  pub first : (x : ReactiveStatement) (xs : List ReactiveStatement) → Holds (x ∷ xs) → Holds (x ∷ [])
  pub rest : (x : ReactiveStatement) (xs : List ReactiveStatement) → Holds (x ∷ xs) → Holds xs
  pub inside : (block : ReactiveScopeBlock) → Holds (reactive.Scope block ∷ [])
      → Holds block.instructions.statements
  pub around : (block : ReactiveScopeBlock) (xs : List ReactiveStatement) → Holds (reactive.Scope block ∷ []) → Holds xs
      → Holds (reactive.Scope (record { scope = block.scope; instructions = record { statements = xs } }) ∷ [])

module _ (Holds : List ReactiveStatement → Type 0) (is : IsOfStatements Holds) where
  -- it holds of what becomes of a list from a place on
  abbrev RestHolds : Rest → Type 0
  RestHolds rest = Holds (pulled_of rest) × Holds rest.staying

  in_front : (x : ReactiveStatement) (xs : List ReactiveStatement) → Holds (x ∷ []) → Holds xs → Holds (x ∷ xs)
  in_front x xs = is.both (x ∷ []) xs

  passed_holds : (x : ReactiveStatement) (rest : Rest) → Holds (x ∷ []) → RestHolds rest
      → RestHolds (passed_over x rest.pulled rest.staying)
  passed_holds x rest one later = by rest.pulled later.0
    where
      by : (pulled : Option (List ReactiveStatement)) → Holds (pulled_of (record { pulled = pulled; staying = rest.staying }))
          → RestHolds (passed_over x pulled rest.staying)
      by None inside = (is.nothing, in_front x rest.staying one later.1)
      by (Some inside) holds = (in_front x inside one holds, later.1)

  ended_holds : (x : ReactiveStatement) (rest : Rest) → Holds (x ∷ []) → RestHolds rest → RestHolds (ends_group x rest)
  ended_holds x rest one later = (is.nothing, in_front x rest.staying one later.1)

  met_holds : (joins : Bool) (block : ReactiveScopeBlock) (rest : Rest) → Holds (reactive.Scope block ∷ [])
      → RestHolds rest → RestHolds (met_block joins block rest)
  met_holds true block rest one later =
      (is.both block.instructions.statements (pulled_of rest) (is.inside block one) later.0, later.1)
  met_holds false block rest one later =
      let all = block.instructions.statements ++ pulled_of rest in
      let inside = is.both block.instructions.statements (pulled_of rest) (is.inside block one) later.0 in
      let filled : ReactiveScopeBlock = record { scope = block.scope; instructions = record { statements = all } } in
      (is.nothing, in_front (reactive.Scope filled) rest.staying (is.around block all one inside) later.1)

  module _ (env : Environment) (uses : LastUses) (copies : Copies) (scopes : List ReactiveScope) where
    row_holds : (it : Item) → IsNoBlock it → (row : ReactiveInstruction) (before : List Item) (rest : Rest)
        → Holds (roll-ReactiveStatement (layer.Instruction row) ∷ []) → RestHolds rest
        → RestHolds (rest_by env uses copies scopes it (layer.Instruction row) before rest)
    row_holds (Passed passed) none row before rest = passed_holds (roll-ReactiveStatement (layer.Instruction row)) rest
    row_holds Other none row before rest = ended_holds (roll-ReactiveStatement (layer.Instruction row)) rest
    row_holds (Block scope) none row before rest = absurd none

    rest_holds : (us : List UnrolledStatement) (before : List Item) → Holds (map roll-ReactiveStatement us)
        → RestHolds (rest_at env uses copies scopes us before)
    rest_holds [] before holds = (is.nothing, is.nothing)
    rest_holds (layer.Instruction row ∷ us) before holds =
        let x = roll-ReactiveStatement (layer.Instruction row) in
        let it = item_of_row env row in
        row_holds it (row_no_block env row) row before (rest_at env uses copies scopes us (it ∷ before))
        (is.first x (map roll-ReactiveStatement us) holds)
        (rest_holds us (it ∷ before) (is.rest x (map roll-ReactiveStatement us) holds))
    rest_holds (layer.Terminal y ∷ us) before holds =
        let x = roll-ReactiveStatement (layer.Terminal y) in
        ended_holds x (rest_at env uses copies scopes us (Other ∷ before))
        (is.first x (map roll-ReactiveStatement us) holds)
        (rest_holds us (Other ∷ before) (is.rest x (map roll-ReactiveStatement us) holds))
    rest_holds (layer.PrunedScope y ∷ us) before holds =
        let x = roll-ReactiveStatement (layer.PrunedScope y) in
        ended_holds x (rest_at env uses copies scopes us (Other ∷ before))
        (is.first x (map roll-ReactiveStatement us) holds)
        (rest_holds us (Other ∷ before) (is.rest x (map roll-ReactiveStatement us) holds))
    rest_holds (layer.Scope block ∷ us) before holds =
        let x = roll-ReactiveStatement (layer.Scope block) in
        let it = Block (scope_at scopes block.scope) in
        met_holds (joins_at env uses copies before (scope_at scopes block.scope)) block
        (rest_at env uses copies scopes us (it ∷ before))
        (subst (λ y. Holds (y ∷ [])) (reactive.rolls-Scope block) (is.first x (map roll-ReactiveStatement us) holds))
        (rest_holds us (it ∷ before) (is.rest x (map roll-ReactiveStatement us) holds))

    -- it holds of the merged list
    pub merged_holds : (xs : List ReactiveStatement) → Holds xs
        → Holds (merged_list env uses copies scopes (map out-ReactiveStatement xs))
    merged_holds xs holds =
        (rest_holds (map out-ReactiveStatement xs) [] (subst Holds (sym (rolled_back xs)) holds)).1
