-- What holds of each entry that is told of a list holds of the list's log.
use Rattle.std.proofs.Common.{◌≡◌, List, [], ◌∷◌, ◌++◌, Bool, true, false, refl, inl, inr}
use Rattle.rc_hir.specs.Model.{Environment, ReactiveScope}
use Rattle.rc_merge.proofs.Elements.{In, here, there, in_append}
use Rattle.rc_merge.specs.Groups.{group_at, joins_at}
use Rattle.rc_merge.specs.Joining.{Copies}
use Rattle.rc_merge.specs.LastUses.{LastUses}
use Rattle.rc_merge.specs.MergedList.{joined_at, told_of}
use Rattle.rc_merge.specs.Places.{Item, Passed, Block, Other, NumberedScope}
use Rattle.rc_tree.specs.declared.fate.Fate.TheVariants.{MergedInto}
use Rattle.rc_tree.specs.declared.fate.ScopeFate.{ScopeFate}

module _ (P : ScopeFate → Type 0) where
  abbrev pub EachEntry : List ScopeFate → Type 0
  EachEntry log = (entry : ScopeFate) → In entry log → P entry

  pub each_none : EachEntry []
  each_none entry m = elim m [ ]

  pub each_one : (one : ScopeFate) → P one → EachEntry (one ∷ [])
  each_one one holds _ here = holds
  each_one one holds entry (there m) = elim m [ ]

  pub each_both : (log more : List ScopeFate) → EachEntry log → EachEntry more → EachEntry (log ++ more)
  each_both log more first second entry m = elim (in_append log more entry m) [
    | inl k ↦ first entry k
    | inr k ↦ second entry k
  ]

  -- what is told of the scope blocks of a list, where a fact of the items says it of the last one that joins
  module _ (env : Environment) (uses : LastUses) (copies : Copies) (scopes : List ReactiveScope)
      (Holds : List Item → Type 0) (rest : (it : Item) (before : List Item) → Holds (it ∷ before) → Holds before)
      (told : (before : List Item) (scope : NumberedScope) → Holds (Block scope ∷ before)
      → joins_at env uses copies before scope ≡ true
      → P (record { scope = scope.number; fate = MergedInto (group_at env uses copies before scope).number })) where
    told_each : (before : List Item) (scope : NumberedScope) → Holds (Block scope ∷ before) → (joins : Bool)
        → joins_at env uses copies before scope ≡ joins
        → EachEntry (told_of env uses copies scopes joins scope (group_at env uses copies before scope))
    told_each before scope holds true is =
        each_one (record { scope = scope.number; fate = MergedInto (group_at env uses copies before scope).number })
        (told before scope holds is)
    told_each before scope holds false is = each_none

    pub joined_each : (before : List Item) → Holds before → EachEntry (joined_at env uses copies scopes before)
    joined_each [] holds = each_none
    joined_each (Passed row ∷ before) holds = joined_each before (rest (Passed row) before holds)
    joined_each (Other ∷ before) holds = joined_each before (rest Other before holds)
    joined_each (Block scope ∷ before) holds =
        each_both (joined_at env uses copies scopes before)
        (told_of env uses copies scopes (joins_at env uses copies before scope) scope
        (group_at env uses copies before scope)) (joined_each before (rest (Block scope) before holds))
        (told_each before scope holds (joins_at env uses copies before scope) refl)
