-- A fact of the states of merging and a fact of what the tree has stay, if lists keep the first, and the second is a
-- fact of each part.
use Rattle.std.proofs.Common.{◌≡◌, List, [], ◌∷◌, ◌++◌, Bool, true, false, Option, None, Some, refl, sym, subst}
use Rattle.rc_hir.specs.Model.{Environment}
use Rattle.rc_names.specs.Numbers.{ScopeId}
use Rattle.rc_merge.proofs.MergedHolds.{IsOfStatements, merged_holds}
use Rattle.rc_merge.proofs.RebuiltInvariant.{KeepsFacts, rebuilt_facts}
use Rattle.rc_merge.specs.LastUses.{LastUses, last_uses_in}
use Rattle.rc_merge.specs.Merged.{Merges, Progress, dissolved_if, gives_way, merging_rules, met_list, met_scope}
use Rattle.rc_merge.specs.Merged.{nothing_met}
use Rattle.rc_tree.proofs.AloneLemmas.{alone-Instruction, alone-PrunedScope, alone-Scope, alone-Terminal}
use Rattle.rc_tree.proofs.CollectedKeeps.{collected_list-append}
use Rattle.rc_tree.proofs.CollectedLemmas.{collected-block}
use Rattle.rc_tree.specs.Collected.{Contributions, collected, collected_list, collected_statement}
use Rattle.rc_tree.specs.inside.JoiningLaws.{IsMonoid}
use Rattle.rc_tree.specs.Model.{PrunedReactiveScopeBlock, ReactiveBlock, ReactiveScopeBlock, ReactiveStatement}
use Rattle.rc_tree.specs.declared.fate.Fate.TheVariants.{DissolvedInto}
use Rattle.rc_tree.specs.declared.fate.ScopeFate.{ScopeFate}
use Rattle.rc_tree.specs.declared.statement.ReactiveStatement.TheVariants as reactive

-- a fact of what parts have: of two parts exactly where it is one of each, and of a scope block also with another
-- inside
pub record IsOfParts {A : Type 0} (Known : A → Type 0) (a : Contributions A) : Type 0 where
  pub nothing : Known a.joining.nothing
  pub both : (x y : A) → Known x → Known y → Known (a.joining.both x y)
  pub first : (x y : A) → Known (a.joining.both x y) → Known x
  pub second : (x y : A) → Known (a.joining.both x y) → Known y
  pub inside : (of : ScopeId) (x : A) → Known (a.scope of x) → Known x
  pub around : (of : ScopeId) (x y : A) → Known (a.scope of x) → Known y → Known (a.scope of y)
  pub inside_pruned : (of : ScopeId) (x : A) → Known (a.pruned_scope of x) → Known x
  pub around_pruned : (of : ScopeId) (x y : A) → Known (a.pruned_scope of x) → Known y → Known (a.pruned_scope of y)

-- a fact of states that says nothing of the scope block around: a scope block that gives way keeps it, and so does a
-- list
pub record IsOfStates {A : Type 0} (env : Environment) (uses : LastUses) (Stays : Progress → Type 0) (Known : A → Type 0)
    (a : Contributions A) : Type 0 where
  pub around : (met : Progress) (scope : Option ScopeId) → Stays met → Stays (record met { around = scope })
  pub dissolved : (met : Progress) (parent scope : ScopeId) → Stays met
      → gives_way env uses met.scopes parent scope ≡ true
      → Stays (record met { log = met.log ++ record { scope = scope; fate = DissolvedInto parent } ∷ [] })
  pub list : (met : Progress) (xs : List ReactiveStatement) → Stays met → Known (collected_list a xs)
      → Stays (met_list env uses xs met).0

module _ {A : Type 0} (Known : A → Type 0) (a : Contributions A) (monoid : IsMonoid a.joining)
    (parts : IsOfParts Known a) where
  -- so it is a fact of statements
  abbrev KnownList : List ReactiveStatement → Type 0
  KnownList xs = Known (collected_list a xs)

  pub of_statements : IsOfStatements KnownList
  of_statements = record {
    nothing = parts.nothing;
    both = λ xs ys j k. subst Known (sym (collected_list-append a monoid xs ys))
        (parts.both (collected_list a xs) (collected_list a ys) j k);
    first = λ x xs k. subst Known (sym (monoid.behind (collected_statement a x)))
        (parts.first (collected_statement a x) (collected_list a xs) k);
    rest = λ x xs k. parts.second (collected_statement a x) (collected_list a xs) k;
    inside = λ block k. subst Known (collected-block a block.instructions)
        (parts.inside block.scope (collected a block.instructions) (subst Known (alone-Scope a monoid block) k));
    around = λ block xs k j.
        let x : ReactiveBlock = record { statements = xs } in
        subst Known (sym (alone-Scope a monoid (record { scope = block.scope; instructions = x })))
        (parts.around block.scope (collected a block.instructions) (collected a x)
        (subst Known (alone-Scope a monoid block) k) (subst Known (sym (collected-block a x)) j));
  }

  module _ (env : Environment) (uses : LastUses) (Stays : Progress → Type 0)
      (states : IsOfStates env uses Stays Known a) where
    -- a scope block, and what replaces it
    abbrev IsKept : Progress × List ReactiveStatement → Type 0
    IsKept r = Stays r.0 × KnownList r.1

    dissolved_kept : (dissolves : Bool) (parent : ScopeId) (block : ReactiveScopeBlock) (met : Progress)
        → gives_way env uses met.scopes parent block.scope ≡ dissolves → Stays met
        → KnownList (reactive.Scope block ∷ []) → IsKept (dissolved_if env uses dissolves parent block met)
    dissolved_kept true parent block met gives stays k = (
      states.around (record met { log = met.log ++ record { scope = block.scope; fate = DissolvedInto parent } ∷ [] })
          (Some parent) (states.dissolved met parent block.scope stays gives),
      of_statements.inside block k,
    )
    dissolved_kept false parent block met gives stays k = (states.around met (Some parent) stays, k)

    scope_kept : (around : Option ScopeId) (block : ReactiveScopeBlock) (met : Progress) → Stays met
        → KnownList (reactive.Scope block ∷ []) → IsKept (met_scope env uses around block met)
    scope_kept None block met stays k = (states.around met None stays, k)
    scope_kept (Some parent) block met stays k =
        dissolved_kept (gives_way env uses met.scopes parent block.scope) parent block met refl stays k

    keeps : KeepsFacts (merging_rules env uses) Stays Known a
    keeps = record {
      nothing = parts.nothing;
      both = parts.both;
      first = parts.first;
      second = parts.second;
      inside = parts.inside;
      inside_pruned = parts.inside_pruned;
      into_scope = λ of met stays. states.around met (Some of) stays;
      row = λ x met stays k. (stays, subst Known (sym (alone-Instruction a monoid x)) k);
      terminal = λ x met stays k. (stays, subst Known (sym (alone-Terminal a monoid x)) k);
      scope = λ of x inside before met first stays k j.
          let block : ReactiveScopeBlock = record { scope = of; instructions = inside } in
          scope_kept before.around block met stays
          (subst Known (sym (alone-Scope a monoid block)) (parts.around of x (collected a inside) k j));
      pruned_scope = λ of x inside met stays k j.
          let block : PrunedReactiveScopeBlock = record { scope = of; instructions = inside } in (
            stays,
            subst Known (sym (alone-PrunedScope a monoid block)) (parts.around_pruned of x (collected a inside) k j),
          );
      block = λ xs met stays k. (
        states.list met xs stays k,
        merged_holds KnownList of_statements env uses met.copies met.scopes xs k,
      );
    }

-- what holds before merging holds after it
pub merging_facts : {A : Type 0} (Known : A → Type 0) (a : Contributions A) → IsMonoid a.joining → IsOfParts Known a
    → (Stays : Progress → Type 0) (before : ReactiveBlock) (old : Environment) (after : ReactiveBlock)
    (new : Environment) (log : List ScopeFate) → IsOfStates old (last_uses_in old before) Stays Known a
    → (merges : Merges before old after new log) → Known (collected a before) → Stays (nothing_met old.scopes)
    → Stays (record { around = None; scopes = new.scopes; copies = merges.copies; log = log })
    × Known (collected a after)
merging_facts Known a monoid parts Stays before old after new log states merges known stays =
    rebuilt_facts (merging_rules old (last_uses_in old before)) Stays Known a monoid
    (keeps Known a monoid parts old (last_uses_in old before) Stays states) before (nothing_met old.scopes)
    (record { around = None; scopes = new.scopes; copies = merges.copies; log = log }) after merges.rebuilt known stays
