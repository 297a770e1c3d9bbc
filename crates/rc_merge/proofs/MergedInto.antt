-- The scopes that a log has merged into heads are those that join a head.
use Rattle.std.proofs.Common.{◌≡◌, ◌∙◌, Bool, true, false, List, [], ◌∷◌, ◌++◌, Option, None, Some, map, refl, sym}
use Rattle.std.proofs.lemmas.List.{map-append}
use Rattle.std.proofs.lemmas.List.Elements.{filter_map-append}
use Rattle.std.specs.List.{cons_option, filter_map}
use Rattle.rc_hir.specs.Model.{Environment, ReactiveScope}
use Rattle.rc_merge.proofs.Elements.{In, here, there}
use Rattle.rc_merge.specs.Explained.{joined_by, joined_in, numbers_of}
use Rattle.rc_merge.specs.Groups.{copies_at, head_after, head_at, joins_if, names_at}
use Rattle.rc_merge.specs.Joining.{Copies, joins}
use Rattle.rc_merge.specs.LastUses.{LastUses}
use Rattle.rc_merge.specs.MergedList.{joined_at, told_of}
use Rattle.rc_merge.specs.Places.{Block, Item, NumberedScope, Other, Passed}
use Rattle.rc_merge.specs.inside.ListSteps.{merged_fate}
use Rattle.rc_names.specs.Numbers.{ScopeId}
use Rattle.rc_tree.specs.declared.fate.Fate.{Fate}
use Rattle.rc_tree.specs.declared.fate.Fate.TheVariants as fates
use Rattle.rc_tree.specs.declared.fate.ScopeFate.{ScopeFate}

-- a scope that merged, with its head
abbrev pub merged_by : ScopeId → Fate → Option (ScopeId × ScopeId)
merged_by scope (fates.MergedInto head) = Some (scope, head)
merged_by scope _ = None

-- the scopes that merged, each with its head
abbrev pub merged_in : List ScopeFate → List (ScopeId × ScopeId)
merged_in log = filter_map (λ (entry : ScopeFate). merged_by entry.scope entry.fate) log

pub merged_in-append : (log more : List ScopeFate) → merged_in (log ++ more) ≡ merged_in log ++ merged_in more
merged_in-append = filter_map-append (λ (entry : ScopeFate). merged_by entry.scope entry.fate)

in_option : {A : Type 0} (option : Option A) (xs : List A) (x : A) → In x xs → In x (cons_option option xs)
in_option None xs x m = m
in_option (Some first) xs x m = there m

pub into_merged : (log : List ScopeFate) (scope head : ScopeId) → In (merged_fate scope head) log
    → In (scope, head) (merged_in log)
into_merged [] scope head m = elim m [ ]
into_merged (entry ∷ log) scope head m = by entry m refl (into_merged log scope head)
  where
    by : (one : ScopeFate) → In (merged_fate scope head) (one ∷ log) → one ≡ one
        → (In (merged_fate scope head) log → In (scope, head) (merged_in log))
        → In (scope, head) (cons_option (merged_by one.scope one.fate) (merged_in log))
    by _ here e rest = here
    by one (there m) e rest = in_option (merged_by one.scope one.fate) (merged_in log) (scope, head) (rest m)

from_one : (scope : ScopeId) (fate : Fate) (log : List ScopeFate) (rest : List (ScopeId × ScopeId))
    (one : ScopeId × ScopeId) → In one (cons_option (merged_by scope fate) rest)
    → (In one rest → In (merged_fate one.0 one.1) log)
    → In (merged_fate one.0 one.1) (record { scope = scope; fate = fate } ∷ log)
from_one scope (fates.MergedInto head) log rest _ here later = here
from_one scope (fates.MergedInto head) log rest one (there m) later = there (later m)
from_one scope (fates.DissolvedInto parent) log rest one m later = there (later m)
from_one scope fates.Kept log rest one m later = there (later m)
from_one scope fates.NotEscaping log rest one m later = there (later m)
from_one scope fates.Unused log rest one m later = there (later m)
from_one scope fates.AlwaysInvalidating log rest one m later = there (later m)

pub from_merged : (log : List ScopeFate) (one : ScopeId × ScopeId) → In one (merged_in log)
    → In (merged_fate one.0 one.1) log
from_merged [] one m = elim m [ ]
from_merged (entry ∷ log) one m =
    from_one entry.scope entry.fate log (merged_in log) one m (from_merged log one)

module _ (env : Environment) (uses : LastUses) (copies : Copies) (scopes : List ReactiveScope) where
  one_merged : (before : List Item) (scope : NumberedScope) (head : Option NumberedScope)
      → merged_in (told_of env uses copies scopes
      (joins_if env uses (copies_at env uses copies before) head (names_at before) scope) scope
      (head_after env uses (joins_if env uses (copies_at env uses copies before) head (names_at before) scope) head
      scope))
      ≡ map numbers_of (joined_by env uses
      (joins_if env uses (copies_at env uses copies before) head (names_at before) scope) head scope (names_at before)
      (copies_at env uses copies before))
  one_merged before scope None = refl
  one_merged before scope (Some head) =
      by (joins env uses (copies_at env uses copies before) head.own (names_at before) scope.own)
    where
      by : (joined : Bool)
          → merged_in (told_of env uses copies scopes joined scope (head_after env uses joined (Some head) scope))
          ≡ map numbers_of (joined_by env uses joined (Some head) scope (names_at before)
          (copies_at env uses copies before))
      by true = refl
      by false = refl

  pub joined_merged : (items : List Item)
      → merged_in (joined_at env uses copies scopes items) ≡ map numbers_of (joined_in env uses copies items)
  joined_merged [] = refl
  joined_merged (Passed row ∷ before) = joined_merged before
  joined_merged (Other ∷ before) = joined_merged before
  joined_merged (Block scope ∷ before) =
      merged_in-append (joined_at env uses copies scopes before) _
      ∙ (λ i. joined_merged before i ++ one_merged before scope (head_at env uses copies before) i)
      ∙ sym (map-append numbers_of (joined_in env uses copies before) _)
