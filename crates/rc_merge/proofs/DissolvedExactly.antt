-- Exactly the scopes give way that have the inputs of the nearest scope block around them.
use Rattle.std.proofs.Common.{◌≡◌, ◌∙◌, List, [], ◌∷◌, ◌++◌, Option, None, Some, Bool, true, false, Result, Ok, Err}
use Rattle.std.proofs.Common.{append_assoc, flat_map, filter, map, refl, sym, ap, subst, inl, inr}
use Rattle.std.specs.Prelude.{IfOk, if◌then◌else◌}
use Rattle.std.proofs.lemmas.List.{append-nil}
use Rattle.std.proofs.lemmas.List.Concat.{flat_map-append}
use Rattle.rc_hir.specs.Model.{Environment, Fault}
use Rattle.rc_names.specs.Numbers.{ScopeId}
use Rattle.rc_merge.proofs.DependenciesStay.{HasDependencies, list_dependencies}
use Rattle.rc_merge.proofs.Elements.{In, here, there, contains_in, in_append, in_contains, in_left, in_right}
use Rattle.rc_merge.proofs.LogLemmas.{EachEntry, joined_each}
use Rattle.rc_merge.specs.Freshness.{IsDissolvedInto}
use Rattle.rc_merge.specs.Inputs.{inputs_of, same_inputs}
use Rattle.rc_merge.specs.LastUses.{LastUses, last_uses_in}
use Rattle.rc_merge.specs.Merged.{Merges, Progress, dissolved_if, gives_way, merging_rules}
use Rattle.rc_merge.specs.Merged.{met_scope, nothing_met}
use Rattle.rc_merge.specs.MergedList.{joined_at}
use Rattle.rc_merge.specs.Nested.{DissolvesExactly, Nested, NestedBlock, SharesInputs, nested_in, nested_parts}
use Rattle.rc_merge.specs.Places.{items_of}
use Rattle.std.proofs.lemmas.List.Elements.{filter-append}
use Rattle.rc_tree.proofs.JoiningLemmas.{lists_monoid}
use Rattle.rc_tree.proofs.ListedOnce.{from_filter, into_filter}
use Rattle.rc_tree.proofs.RebuiltHolds.{HoldsOfRules, and_then, having, rebuilt_holds}
use Rattle.rc_tree.proofs.TerminalShapes.{Leaf, Break, Continue, Return, Throw, leaf, of_leaf}
use Rattle.rc_tree.specs.Collected.{collected, collected_list, collected_terminal}
use Rattle.rc_tree.specs.Rebuilt.{Rebuilds}
use Rattle.rc_tree.specs.ScopesIn.{scope_parts, scopes_in}
use Rattle.rc_tree.specs.Step.{bind}
use Rattle.rc_tree.specs.Model.{ReactiveBlock, ReactiveLabel, ReactiveScopeBlock, ReactiveStatement, ReactiveTerminal}
use Rattle.rc_tree.specs.declared.fate.Fate.{Fate}
use Rattle.rc_tree.specs.declared.fate.Fate.TheVariants.{DissolvedInto}
use Rattle.rc_tree.specs.declared.fate.ScopeFate.{ScopeFate}
use Rattle.rc_tree.specs.declared.statement.ReactiveStatement.{out-ReactiveStatement}
use Rattle.rc_tree.specs.declared.statement.ReactiveStatement.TheVariants as reactive

-- what is told of scopes that gave way

abbrev is_dissolved : Fate → Bool
is_dissolved (DissolvedInto parent) = true
is_dissolved _ = false

abbrev has_dissolved : ScopeFate → Bool
has_dissolved entry = is_dissolved entry.fate

abbrev dissolved_of : List ScopeFate → List ScopeFate
dissolved_of = filter has_dissolved

abbrev IsNone : ScopeFate → Type 0
IsNone entry = has_dissolved entry ≡ false

none_dissolved : (log : List ScopeFate) → EachEntry IsNone log → dissolved_of log ≡ []
none_dissolved [] each = refl
none_dissolved (entry ∷ log) each =
    ap (λ b. if b then entry ∷ dissolved_of log else dissolved_of log) (each entry here)
    ∙ none_dissolved log (λ e m. each e (there m))

in_flat_map : {X Y : Type 0} (f : X → List Y) (xs : List X) (y : Y) → In y (flat_map f xs)
    → (x : X) × In x xs × In y (f x)
in_flat_map f [] y m = elim m [ ]
in_flat_map f (x ∷ xs) y m = elim (in_append (f x) (flat_map f xs) y m) [
  | inl n ↦ (x, here, n)
  | inr n ↦ let t = in_flat_map f xs y n in (t.0, there t.1, t.2)
]

flat_map_in : {X Y : Type 0} (f : X → List Y) (xs : List X) (x : X) (y : Y) → In x xs → In y (f x)
    → In y (flat_map f xs)
flat_map_in f [] x y m n = elim m [ ]
flat_map_in f (x ∷ xs) _ y here n = in_left (f x) (flat_map f xs) y n
flat_map_in f (z ∷ xs) x y (there m) n = in_right (f z) (flat_map f xs) y (flat_map_in f xs x y m n)

only_one : {X : Type 0} (x one : X) → In x (one ∷ []) → x ≡ one
only_one _ one here = refl
only_one x one (there m) = elim m [ ]

abbrev nested : ScopeId → Option ScopeId → NestedBlock
nested scope around = record { scope = scope; around = around }

abbrev dissolved_entry : ScopeId → ScopeId → ScopeFate
dissolved_entry scope parent = record { scope = scope; fate = DissolvedInto parent }

module _ (env : Environment) (uses : LastUses) where
  -- what is told of a scope block, by the nearest one around it and the scopes before
  abbrev gone_if : Bool → ScopeId → ScopeId → List ScopeFate
  gone_if true scope parent = dissolved_entry scope parent ∷ []
  gone_if false scope parent = []

  abbrev gone_within : Option ScopeId → ScopeId → List ScopeFate
  gone_within None scope = []
  gone_within (Some parent) scope = gone_if (gives_way env uses env.scopes parent scope) scope parent

  abbrev gone_of : NestedBlock → List ScopeFate
  gone_of block = gone_within block.around block.scope

  abbrev all_gone : List NestedBlock → List ScopeFate
  all_gone = flat_map gone_of

  -- after a part: the scopes have their dependencies, the nearest scope block around is the same, and what was told of
  -- scopes that gave way is that of the part's scope blocks
  record Went (x : Nested) (s t : Progress) : Type 0 where
    dependencies : HasDependencies env.scopes t.scopes
    around : t.around ≡ s.around
    told : dissolved_of t.log ≡ dissolved_of s.log ++ all_gone (x s.around)

  unfoldable Goes : Nested → Progress → Result (Progress × List ScopeId) Fault → Type 0
  Goes x s (Ok r) = HasDependencies env.scopes s.scopes → Went x s r.0
  Goes x s (Err fault) = Unit {0}

  stays : (x : Nested) (s : Progress) (scopes : List ScopeId) → x s.around ≡ [] → Goes x s (Ok (s, scopes))
  unfolding Goes
  stays x s scopes none = λ has. record {
    dependencies = has;
    around = refl;
    told = sym (append-nil (dissolved_of s.log)) ∙ ap (λ l. dissolved_of s.log ++ all_gone l) (sym none);
  }

  both_go : (x y : Nested) (s : Progress) (first : Result (Progress × List ScopeId) Fault)
      (next : Rebuilds Progress (List ScopeId)) → Goes x s first → IfOk first (λ c. Goes y c.0 (next c.0))
      → Goes (λ around. x around ++ y around) s (and_then (λ a b. a ++ b) first next)
  unfolding Goes
  both_go x y s (Err fault) next h k = tt
  both_go x y s (Ok c) next h k = by (next c.0) k
    where
      by : (e : Result (Progress × List ScopeId) Fault) → Goes y c.0 e
          → Goes (λ around. x around ++ y around) s (having (λ b. c.1 ++ b) e)
      by (Err fault) j = tt
      by (Ok d) j = λ has.
          let one = h has in
          let two = j one.dependencies in
          record {
            dependencies = two.dependencies;
            around = two.around ∙ one.around;
            told = two.told
                ∙ (λ i. one.told i ++ all_gone (y (one.around i)))
                ∙ append_assoc (dissolved_of s.log) (all_gone (x s.around)) (all_gone (y s.around))
                ∙ ap (λ l. dissolved_of s.log ++ l) (sym (flat_map-append gone_of (x s.around) (y s.around)));
          }

  leaf_none : (shape : Leaf) (around : Option ScopeId) → of_leaf nested_parts shape around ≡ []
  leaf_none (Break target kind id) around = refl
  leaf_none (Continue target kind id) around = refl
  leaf_none (Return value id) around = refl
  leaf_none (Throw value id) around = refl

  -- a scope is judged by the dependencies that it had before
  same_judgement : (s : Progress) (parent scope : ScopeId) → HasDependencies env.scopes s.scopes
      → gives_way env uses s.scopes parent scope ≡ gives_way env uses env.scopes parent scope
  same_judgement s parent scope has =
      λ i. same_inputs (inputs_of env (has parent i)) (inputs_of env (has scope i))

  dissolved_told : (gives : Bool) (parent : ScopeId) (block : ReactiveScopeBlock) (met : Progress)
      → dissolved_of (dissolved_if env uses gives parent block met).0.log
      ≡ dissolved_of met.log ++ gone_if gives block.scope parent
  dissolved_told true parent block met = filter-append has_dissolved met.log (dissolved_entry block.scope parent ∷ [])
  dissolved_told false parent block met = sym (append-nil (dissolved_of met.log))

  dissolved_scopes : (gives : Bool) (parent : ScopeId) (block : ReactiveScopeBlock) (met : Progress)
      → (dissolved_if env uses gives parent block met).0.scopes ≡ met.scopes
  dissolved_scopes true parent block met = refl
  dissolved_scopes false parent block met = refl

  dissolved_around : (gives : Bool) (parent : ScopeId) (block : ReactiveScopeBlock) (met : Progress)
      → (dissolved_if env uses gives parent block met).0.around ≡ Some parent
  dissolved_around true parent block met = refl
  dissolved_around false parent block met = refl

  scope_told : (around : Option ScopeId) (block : ReactiveScopeBlock) (met : Progress)
      → HasDependencies env.scopes met.scopes
      → dissolved_of (met_scope env uses around block met).0.log
      ≡ dissolved_of met.log ++ gone_within around block.scope
  scope_told None block met has = sym (append-nil (dissolved_of met.log))
  scope_told (Some parent) block met has =
      dissolved_told (gives_way env uses met.scopes parent block.scope) parent block met
      ∙ ap (λ gives. dissolved_of met.log ++ gone_if gives block.scope parent) (same_judgement met parent block.scope has)

  scope_scopes : (around : Option ScopeId) (block : ReactiveScopeBlock) (met : Progress)
      → (met_scope env uses around block met).0.scopes ≡ met.scopes
  scope_scopes None block met = refl
  scope_scopes (Some parent) block met =
      dissolved_scopes (gives_way env uses met.scopes parent block.scope) parent block met

  scope_around : (around : Option ScopeId) (block : ReactiveScopeBlock) (met : Progress)
      → (met_scope env uses around block met).0.around ≡ around
  scope_around None block met = refl
  scope_around (Some parent) block met =
      dissolved_around (gives_way env uses met.scopes parent block.scope) parent block met

  all_go : HoldsOfRules (merging_rules env uses) Goes nested_parts scope_parts
  unfolding Goes
  all_go = record {
    nothing = λ s. stays (λ around. []) s [] refl;
    both = both_go;
    value = λ id x s. stays (λ around. []) s [] refl;
    place = λ id x s. stays (λ around. []) s [] refl;
    row = λ x s. stays (λ around. []) s (collected_list scope_parts (reactive.Instruction x ∷ [])) refl;
    leaf = λ shape label s. stays (λ around. of_leaf nested_parts shape around) s (collected_list scope_parts
        (reactive.Terminal (record { terminal = leaf shape; label = label }) ∷ [])) (leaf_none shape s.around);
    terminal = λ x label s inside deep. terminal_goes x label s inside;
    scope = scope_goes;
    pruned_scope = pruned_scope_goes;
    block = block_goes;
  }
    where
      terminal_goes : (x : Nested) (label : Option ReactiveLabel) (s : Progress)
          (inside : Result (Progress × ReactiveTerminal) Fault) → Goes x s (having (collected_terminal scope_parts) inside)
          → Goes (λ around. x around) s (having (collected_list scope_parts)
          (bind inside (λ c. (merging_rules env uses).terminal (record { terminal = c.1; label = label }) c.0)))
      terminal_goes x label s (Err fault) h = tt
      terminal_goes x label s (Ok c) h = h

      pruned_scope_goes : (x : Nested) (of : ScopeId) (s : Progress) (inside : Result (Progress × ReactiveBlock) Fault)
          → Goes x s (having scopes_in inside)
          → Goes x s (having (collected_list scope_parts)
          (bind inside (λ c. (merging_rules env uses).pruned_scope (record { scope = of; instructions = c.1 }) c.0)))
      pruned_scope_goes x of s (Err fault) h = tt
      pruned_scope_goes x of s (Ok c) h = h

      scope_goes : (x : Nested) (of : ScopeId) (s : Progress) (inside : Result (Progress × ReactiveBlock) Fault)
          → Goes x ((merging_rules env uses).into_scope of s) (having scopes_in inside)
          → Goes (nested_parts.scope of x) s (having (collected_list scope_parts)
          (bind inside (λ c. (merging_rules env uses).scope s (record { scope = of; instructions = c.1 }) c.0)))
      scope_goes x of s (Err fault) h = tt
      scope_goes x of s (Ok c) h = λ has.
          let block : ReactiveScopeBlock = record { scope = of; instructions = c.1 } in
          let inner = h has in
          record {
            dependencies = subst (HasDependencies env.scopes) (sym (scope_scopes s.around block c.0)) inner.dependencies;
            around = scope_around s.around block c.0;
            told = scope_told s.around block c.0 inner.dependencies
                ∙ ap (λ l. l ++ gone_within s.around of) inner.told
                ∙ append_assoc (dissolved_of s.log) (all_gone (x (Some of))) (gone_within s.around of)
                ∙ ap (λ l. dissolved_of s.log ++ l) (ap (λ l. all_gone (x (Some of)) ++ l)
                (sym (append-nil (gone_within s.around of)))
                ∙ sym (flat_map-append gone_of (x (Some of)) (record { scope = of; around = s.around } ∷ [])));
          }

      block_goes : (x : Nested) (s : Progress) (inside : Result (Progress × List ReactiveStatement) Fault)
          → Goes x s (having (collected_list scope_parts) inside)
          → Goes x s (having (collected_list scope_parts) (bind inside (λ c. (merging_rules env uses).block c.1 c.0)))
      block_goes x s (Err fault) h = tt
      block_goes x s (Ok c) h = λ has.
          let before = h has in
          let joined = joined_at env uses c.0.copies c.0.scopes
          (items_of env c.0.scopes (map out-ReactiveStatement c.1)) in
          record {
            dependencies = list_dependencies env uses env.scopes c.0 c.1 before.dependencies;
            around = before.around;
            told = filter-append has_dissolved c.0.log joined
                ∙ ap (λ l. dissolved_of c.0.log ++ l) (none_dissolved joined (joined_each IsNone env uses c.0.copies
                c.0.scopes (λ items. Unit {0}) (λ it items k. tt) (λ items scope k is. refl)
                (items_of env c.0.scopes (map out-ReactiveStatement c.1)) tt))
                ∙ append-nil (dissolved_of c.0.log) ∙ before.told;
          }

  -- what is told of one scope block, by its parts
  gone_parts : (block : NestedBlock) (scope parent : ScopeId) → In (dissolved_entry scope parent) (gone_of block)
      → (block ≡ nested scope (Some parent)) × (gives_way env uses env.scopes parent scope ≡ true)
  gone_parts block scope parent m = by block.around m
    where
      given : (p : ScopeId) (gives : Bool) → gives_way env uses env.scopes p block.scope ≡ gives
          → In (dissolved_entry scope parent) (gone_if gives block.scope p)
          → (nested block.scope (Some p) ≡ nested scope (Some parent))
          × (gives_way env uses env.scopes parent scope ≡ true)
      given p false is n = elim n [ ]
      given p true is n =
          let e = only_one (dissolved_entry scope parent) (dissolved_entry block.scope p) n in
          let same : scope ≡ block.scope = ap (λ (entry : ScopeFate). entry.scope) e in
          let fates : DissolvedInto parent ≡ DissolvedInto p = ap (λ (entry : ScopeFate). entry.fate) e in
          let above : parent ≡ p = cc in (
            λ i. record { scope = sym same i; around = Some (sym above i) },
            (λ i. gives_way env uses env.scopes (above i) (same i)) ∙ is,
          )

      by : (around : Option ScopeId) → In (dissolved_entry scope parent) (gone_within around block.scope)
          → (nested block.scope around ≡ nested scope (Some parent))
          × (gives_way env uses env.scopes parent scope ≡ true)
      by None n = elim n [ ]
      by (Some p) n = given p (gives_way env uses env.scopes p block.scope) refl n

module _ (before : ReactiveBlock) (old : Environment) (after : ReactiveBlock) (new : Environment)
    (log : List ScopeFate) (merges : Merges before old after new log) where
  abbrev uses : LastUses
  uses = last_uses_in old before

  all_told : dissolved_of log ≡ all_gone old uses (nested_in before)
  unfolding Goes
  all_told =
      (subst (λ e. Goes old uses (collected nested_parts before) (nothing_met old.scopes) (having scopes_in e))
      merges.rebuilt (rebuilt_holds (merging_rules old uses) (Goes old uses) nested_parts scope_parts lists_monoid
      (all_go old uses) before (nothing_met old.scopes)) (λ n. refl)).told

  pub dissolves_exactly : DissolvesExactly old before log
  dissolves_exactly scope parent = (forth, back)
    where
      entry : ScopeFate
      entry = dissolved_entry scope parent

      forth : IsDissolvedInto log scope parent → SharesInputs old before scope parent
      forth gone =
          let told = subst (In entry) all_told (in_contains (dissolved_of log) entry
          (into_filter has_dissolved log entry gone refl)) in
          let found = in_flat_map (gone_of old uses) (nested_in before) entry told in
          let parts = gone_parts old uses found.0 scope parent found.2 in
          record {
            nested = contains_in (nested_in before) (record { scope = scope; around = Some parent })
                (subst (λ b. In b (nested_in before)) parts.0 found.1);
            same = parts.1;
          }

      back : SharesInputs old before scope parent → IsDissolvedInto log scope parent
      back shares =
          let block : NestedBlock = record { scope = scope; around = Some parent } in
          let own = subst (λ gives. In entry (gone_if old uses gives scope parent)) (sym shares.same) here in
          (from_filter has_dissolved log entry (contains_in (dissolved_of log) entry (subst (In entry) (sym all_told)
          (flat_map_in (gone_of old uses) (nested_in before) block entry
          (in_contains (nested_in before) block shares.nested) own)))).0
