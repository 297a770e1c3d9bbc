-- Where the numbers of a tree are in their tables, those of the tree with its early returns are in the tables that have
-- grown.
use Rattle.std.proofs.Common.{◌≡◌, ◌∙◌, ◌+◌, ◌*◌, ◌≤◌, ◌<◌, ◌++◌, ℕ, Bool, true, false, List, [], ◌∷◌, Option, None}
use Rattle.std.proofs.Common.{Some, All}
use Rattle.std.proofs.Common.{Result, Ok, Err, OnOk, refl, sym, ap, subst, length, slice_get, arith, append-nil}
use Rattle.std.proofs.Common.{length-append}
use Rattle.std.specs.List.{list_all}
use Rattle.std.specs.Prelude.{IfOk, if◌then◌else◌, nat_lt}
use Rattle.std.proofs.lemmas.Bool.{and_parts, ltb-true}
use Rattle.std.proofs.lemmas.List.Elements.{All-append, All-cons, All-nil, All-weaker}
use Rattle.rc_early.proofs.GrowsLemmas.{tree_known}
use Rattle.rc_early.proofs.KeptRuns.ProgressHolds.{after_body}
use Rattle.rc_early.proofs.MadeLemmas.{IsNext, pending, taken}
use Rattle.rc_early.proofs.RoomLemmas.{five_identifiers}
use Rattle.rc_early.proofs.ScopesLemmas.{held_by_six, inside_stays, open_leaf, out_leaf}
use Rattle.rc_early.specs.EarlyReturned.{MakesEarlyReturns, Progress, early_return_rules, ended, nothing_met}
use Rattle.rc_early.specs.EarlyReturned.{return_within}
use Rattle.rc_early.specs.EarlyReturned.{scope_at, terminal_at, with_sentinel}
use Rattle.rc_early.specs.Entries.{has_room, next_entry, with_early_return, with_early_returns}
use Rattle.rc_early.specs.inside.Growing.{Grows}
use Rattle.rc_early.specs.Statements.{added_row, after_sentinel, call, labeled, load_argument, load_for, load_symbol}
use Rattle.rc_early.specs.Statements.{store, stored_return, temporary, unset}
use Rattle.rc_early.specs.declared.early_return.EarlyReturn.{EarlyReturn}
use Rattle.rc_early.specs.declared.early_return.Where.{Where}
use Rattle.rc_early.specs.declared.early_return.Where.TheVariants.{Outside, Within, PassedOver}
use Rattle.rc_hir.specs.Model.{Environment, Fault, InstructionValue, Lengths, Place, ReactiveScope}
use Rattle.rc_hir.specs.Model.{ReactiveScopeEarlyReturn}
use Rattle.rc_hir.specs.Model.{TableName}
use Rattle.rc_hir.specs.Names.{IsInTable, length_of, lengths}
use Rattle.rc_hir.specs.PartNames.{Name, names_if, place_names, scope_name}
use Rattle.rc_hir.specs.ValueNames.{value_names}
use Rattle.rc_hir.specs.declared.fault.Fault.TheVariants.{NoIds}
use Rattle.rc_hir.specs.declared.fault.TableName.TheVariants as table
use Rattle.rc_hir.specs.declared.pattern.InstructionKind.TheVariants.{Let}
use Rattle.rc_hir.specs.declared.place.Effect.TheVariants.{ConditionallyMutate}
use Rattle.rc_names.specs.Numbers.{ScopeId}
use Rattle.rc_names.specs.declared.span.Span.{Span}
use Rattle.rc_runs.proofs.AllLemmas.{All-left, All-right}
use Rattle.rc_tree.proofs.AloneLemmas.{alone-Instruction, alone-PrunedScope, alone-Scope, alone-Terminal}
use Rattle.rc_tree.proofs.CollectedLemmas.{collected-Base, collected-block, collected-Break, collected-Instruction}
use Rattle.rc_tree.proofs.CollectedLemmas.{collected-Label, collected-row, collected-Terminal}
use Rattle.rc_tree.proofs.JoiningLemmas.{lists_monoid}
use Rattle.rc_tree.proofs.RebuiltHolds.{HoldsOfRules, and_then, having, rebuilt_holds}
use Rattle.rc_tree.proofs.TerminalShapes.{Leaf, Break, Continue, Return, Throw, collected-leaf, has_inside, leaf}
use Rattle.rc_tree.proofs.TerminalShapes.{of_leaf}
use Rattle.rc_tree.specs.Collected.{collected_list, collected_statement, collected_terminal}
use Rattle.rc_tree.specs.Rebuilt.{Rebuilds}
use Rattle.rc_tree.specs.Step.{bind}
use Rattle.rc_tree.specs.TreeNames.{Names, TreeInTables, names_in, names_of_parts, names_of_values}
use Rattle.rc_tree.specs.Model.{ReactiveBlock, ReactiveFunction, ReactiveInstruction, ReactiveLabel, ReactiveScopeBlock}
use Rattle.rc_tree.specs.Model.{ReactiveStatement}
use Rattle.rc_tree.specs.Model.{ReactiveTerminal, ReactiveTerminalStatement}
use Rattle.rc_tree.specs.declared.kind.ReactiveTerminalTargetKind.TheVariants.{Labeled}
use Rattle.rc_tree.specs.declared.statement.ReactiveStatement.TheVariants as reactive
use Rattle.rc_tree.specs.declared.terminal.ReactiveTerminal.{out-ReactiveTerminal}
use Rattle.rc_tree.specs.declared.terminal.ReactiveTerminal.TheVariants as tree
use Rattle.rc_tree.specs.declared.value.ReactiveValue.TheVariants as reactive_values

-- the numbers of one statement
abbrev names_at : ReactiveStatement → Names
names_at = collected_statement names_of_parts

added_names : (span : Option Span) (target : Option Place) (value : InstructionValue)
    → names_at (added_row span target value) ≡ names_if place_names target ++ value_names value
added_names span target value =
    let row : ReactiveInstruction = record {
      id = unset;
      lvalue = target;
      value = reactive_values.Instruction value;
      span = span;
    } in
    collected-Instruction names_of_parts row ∙ collected-row names_of_values row
    ∙ ap (λ held. names_if place_names target ++ held) (collected-Base names_of_values value unset)

-- the numbers of temporaries, by how far each is from that of the variable, and others after them
abbrev with_temporaries : ℕ → List ℕ → Names → Names
with_temporaries variable [] others = others
with_temporaries variable (step ∷ steps) others =
    (table.Identifiers, variable + step) ∷ with_temporaries variable steps others

module _ (env : Environment) where
  -- the tables that have the entries of that many early returns
  abbrev tables : ℕ → Lengths
  tables count = record (lengths env 0) { identifiers = length env.identifiers + 5 * count }

  abbrev In : ℕ → Name → Type 0
  In count = IsInTable (tables count)

  longer : (a b : ℕ) → a ≤ b → (t : TableName) → length_of (tables a) t ≤ length_of (tables b) t
  longer a b below table.Identifiers = omega (arith, below)
  longer a b below table.Declarations = omega (arith, below)
  longer a b below table.Types = omega arith
  longer a b below table.Scopes = omega arith
  longer a b below table.Functions = omega arith
  longer a b below table.Instructions = omega arith
  longer a b below table.Shapes = omega arith

  more : (a b : ℕ) → a ≤ b → (xs : Names) → All (In a) xs → All (In b) xs
  more a b below = All-weaker (In a) (In b) (λ name h. omega (arith, h, longer a b below name.0))

  at_first : (t : TableName) → length_of (lengths env 0) t ≤ length_of (tables 0) t
  at_first table.Identifiers = omega arith
  at_first table.Declarations = omega arith
  at_first table.Types = omega arith
  at_first table.Scopes = omega arith
  at_first table.Functions = omega arith
  at_first table.Instructions = omega arith
  at_first table.Shapes = omega arith

  first : (n : ℕ) (xs : Names) → All (IsInTable (lengths env 0)) xs → All (In n) xs
  first n xs all = more 0 n (omega arith) xs (All-weaker (IsInTable (lengths env 0)) (In 0)
      (λ name h. omega (arith, h, at_first name.0)) xs all)

  -- the numbers of the four temporaries are in the table
  temporaries_in : (n variable : ℕ) (steps : List ℕ) (others : Names) → variable + 4 < length env.identifiers + 5 * n
      → list_all (λ step. nat_lt step 5) steps ≡ true → All (In n) others
      → All (In n) (with_temporaries variable steps others)
  temporaries_in n variable [] others below few all = all
  temporaries_in n variable (step ∷ steps) others below few all =
      let near = and_parts (nat_lt step 5) (list_all (λ step. nat_lt step 5) steps) few in
      All-cons (In n) (table.Identifiers, variable + step) (with_temporaries variable steps others)
      (omega (arith, below, ltb-true step 5 near.0)) (temporaries_in n variable steps others below near.1 all)

  stored_known : (n : ℕ) (entry : ReactiveScopeEarlyReturn) (place : Place)
      → entry.value.0 < length env.identifiers + 5 * n → All (In n) (place_names place)
      → All (In n) (collected_list names_of_parts (stored_return entry place))
  stored_known n entry place below all =
      let jump : ReactiveTerminalStatement = record { terminal = tree.Break entry.label Labeled unset; label = None } in
      let none : names_at (reactive.Terminal jump) ≡ [] =
      collected-Terminal names_of_parts jump ∙ collected-Break names_of_parts entry.label Labeled unset in
      subst (All (In n)) (sym (ap (λ xs. xs ++ (names_at (reactive.Terminal jump) ++ [])) (added_names _ _ _)
      ∙ ap (λ xs. ((table.Identifiers, entry.value.0) ∷ place_names place) ++ (xs ++ [])) none
      ∙ append-nil ((table.Identifiers, entry.value.0) ∷ place_names place)))
      (All-cons (In n) (table.Identifiers, entry.value.0) (place_names place) below all)

  sentinel_known : (n : ℕ) (entry : ReactiveScopeEarlyReturn) (block : ReactiveBlock)
      → entry.value.0 + 4 < length env.identifiers + 5 * n → All (In n) (names_in block)
      → All (In n) (names_in (record { statements = after_sentinel entry block }))
  sentinel_known n entry block below all =
      let under : ReactiveTerminalStatement = record {
        terminal = tree.Label block unset;
        label = Some (record { id = entry.label; implicit = false });
      } in
      let own : names_at (labeled entry block) ≡ names_in block =
      collected-Terminal names_of_parts under ∙ collected-Label names_of_parts block unset in
      let variable = entry.value.0 in
      let stored : Names = with_temporaries variable (1 ∷ []) (names_in block ++ []) in
      subst (All (In n)) (sym (collected-block names_of_parts (record { statements = after_sentinel entry block })
      ∙ held_by_six names_of_parts (load_symbol entry) (load_for entry) (load_argument entry) (call entry)
      (store Let ConditionallyMutate entry.value entry.span (temporary entry.value 1)) (labeled entry block)
      (added_names _ _ _) (added_names _ _ _) (added_names _ _ _) (added_names _ _ _) (added_names _ _ _) own))
      (temporaries_in n variable (2 ∷ 3 ∷ 2 ∷ 4 ∷ 1 ∷ 2 ∷ 3 ∷ 4 ∷ []) ((table.Identifiers, variable) ∷ stored) below
      refl (All-cons (In n) (table.Identifiers, variable) stored (omega (arith, below))
      (temporaries_in n variable (1 ∷ []) (names_in block ++ []) below refl
      (All-append (In n) (names_in block) [] all (All-nil (In n))))))

  unfoldable Known : Names → Progress → Result (Progress × Names) Fault → Type 0
  Known x s (Err fault) = Unit {0}
  Known x s (Ok r) = All (IsInTable (lengths env 0)) x → IsNext env s.made s.met
      → IsNext env r.0.made r.0.met × ((taken s ≤ taken r.0) × All (In (taken r.0)) r.1)

  stays : (x : Names) (s : Progress) (y : Names) → y ≡ x → Known x s (Ok (s, y))
  unfolding Known
  stays x s y same = λ all next. (
    next,
    (omega arith, first (taken s) y (subst (All (IsInTable (lengths env 0))) (sym same) all)),
  )

  both_known : (x y : Names) (s : Progress) (one : Result (Progress × Names) Fault) (next : Rebuilds Progress Names)
      → Known x s one → IfOk one (λ c. Known y c.0 (next c.0)) → Known (x ++ y) s (and_then (λ a b. a ++ b) one next)
  unfolding Known
  both_known x y s (Err fault) next h k = tt
  both_known x y s (Ok c) next h k = by (next c.0) k
    where
      by : (e : Result (Progress × Names) Fault) → Known y c.0 e → Known (x ++ y) s (having (λ b. c.1 ++ b) e)
      by (Err fault) j = tt
      by (Ok d) j = λ all is.
          let a = h (All-left (IsInTable (lengths env 0)) x y all) is in
          let b = j (All-right (IsInTable (lengths env 0)) x y all) a.0 in (
            b.0,
            (
              omega (arith, a.1.0, b.1.0),
              All-append (In (taken d.0)) c.1 d.1
                  (more (taken c.0) (taken d.0) b.1.0 c.1 a.1.1) b.1.1,
            ),
          )

  return_known : (met : Option ReactiveScopeEarlyReturn) (place : Place) (s : Progress) → s.met ≡ met
      → Known (place_names place) s (having (collected_list names_of_parts) (return_within env met place s))
  unfolding Known
  return_known (Some entry) place s is = λ all next. (
    next,
    (
      omega arith,
      stored_known (taken s) entry place
          (omega (arith, subst (IsNext env s.made) is next, ap pending is)) (first (taken s) (place_names place) all),
    ),
  )
  return_known None place s is = by (has_room env (length s.made + 1))
    where
      by : (room : Bool) → Known (place_names place) s (having (collected_list names_of_parts) (if room
          then Ok (
            record s { met = Some (next_entry env (length s.made) place.span) },
            stored_return (next_entry env (length s.made) place.span) place,
          ) else Err NoIds))
      by true = λ all next. (
        refl,
        (
          omega (arith, ap pending is),
          stored_known (length s.made + 1)
              (next_entry env (length s.made) place.span) place (omega arith)
              (first (length s.made + 1) (place_names place) all),
        ),
      )
      by false = tt

  leaf_at : (shape : Leaf) (w : Where) (x : ReactiveTerminalStatement) (s : Progress)
      → collected_list names_of_parts (reactive.Terminal x ∷ []) ≡ of_leaf names_of_parts shape
      → Known (of_leaf names_of_parts shape) s
      (having (collected_list names_of_parts) (terminal_at env w (open_leaf shape) x s))
  unfolding open_leaf
  leaf_at (Return place id) Within x s same = return_known s.met place s refl
  leaf_at (Return place id) Outside x s same = stays _ s _ same
  leaf_at (Return place id) PassedOver x s same = stays _ s _ same
  leaf_at (Break target kind id) Within x s same = stays _ s _ same
  leaf_at (Break target kind id) Outside x s same = stays _ s _ same
  leaf_at (Break target kind id) PassedOver x s same = stays _ s _ same
  leaf_at (Continue target kind id) Within x s same = stays _ s _ same
  leaf_at (Continue target kind id) Outside x s same = stays _ s _ same
  leaf_at (Continue target kind id) PassedOver x s same = stays _ s _ same
  leaf_at (Throw place id) Within x s same = stays _ s _ same
  leaf_at (Throw place id) Outside x s same = stays _ s _ same
  leaf_at (Throw place id) PassedOver x s same = stays _ s _ same

  leaf_known : (shape : Leaf) (label : Option ReactiveLabel) (s : Progress) → Known (of_leaf names_of_parts shape) s
      (having (collected_list names_of_parts)
      ((early_return_rules env).terminal (record { terminal = leaf shape; label = label }) s))
  leaf_known shape label s =
      let x : ReactiveTerminalStatement = record { terminal = leaf shape; label = label } in
      subst (λ t. Known (of_leaf names_of_parts shape) s
      (having (collected_list names_of_parts) (terminal_at env s.at t x s)))
      (sym (out_leaf shape))
      (leaf_at shape s.at x s (alone-Terminal names_of_parts lists_monoid x ∙ collected-leaf names_of_parts shape))

  terminal_known : (x : Names) (label : Option ReactiveLabel) (s : Progress)
      (inside : Result (Progress × ReactiveTerminal) Fault)
      → IfOk inside (λ c. has_inside (out-ReactiveTerminal c.1) ≡ true)
      → Known x s (having (collected_terminal names_of_parts) inside)
      → Known x s (having (collected_list names_of_parts)
      (bind inside (λ c. (early_return_rules env).terminal (record { terminal = c.1; label = label }) c.0)))
  unfolding Known
  terminal_known x label s (Err fault) deep h = tt
  terminal_known x label s (Ok c) deep h =
      let statement : ReactiveTerminalStatement = record { terminal = c.1; label = label } in
      subst (λ e. Known x s (having (collected_list names_of_parts) e))
      (sym (inside_stays env c.0.at (out-ReactiveTerminal c.1) statement c.0 deep))
      (subst (λ y. Known x s (Ok (c.0, y))) (sym (alone-Terminal names_of_parts lists_monoid statement)) h)

  -- the end of a scope block
  module _ (s c : Progress) (x : Names) (block : ReactiveScopeBlock)
      (h : All (IsInTable (lengths env 0)) x → IsNext env s.made s.met
      → IsNext env c.made c.met × ((taken s ≤ taken c) × All (In (taken c)) (names_in block.instructions))) where
    abbrev Left : Result (Progress × List ReactiveStatement) Fault → Type 0
    Left e = Known (scope_name block.scope ++ x) s (having (collected_list names_of_parts) e)

    ended_known : (found : Option ReactiveScope) (entry : ReactiveScopeEarlyReturn) → c.met ≡ Some entry
        → Left (ended found entry block c)
    unfolding Known
    ended_known None entry is = tt
    ended_known (Some scope) entry is = λ all next.
        let a = h (All-right (IsInTable (lengths env 0)) (scope_name block.scope) x all) next in
        let early : EarlyReturn = record { scope = block.scope; entry = entry } in
        let n = length (c.made ++ early ∷ []) + 0 in
        let same : taken c ≡ n = omega (arith, length-append c.made (early ∷ []), ap pending is) in (
          tt,
          (
            omega (arith, a.1.0, same),
            subst (All (In n)) (sym (alone-Scope names_of_parts lists_monoid (with_sentinel entry block)))
                (All-append (In n) (scope_name block.scope) _
                (first n (scope_name block.scope) (All-left (IsInTable (lengths env 0)) (scope_name block.scope) x all))
                (sentinel_known n entry block.instructions
                (omega (arith, subst (IsNext env c.made) is a.0, length-append c.made (early ∷ [])))
                (more (taken c) n (omega (arith, same)) (names_in block.instructions) a.1.1))),
          ),
        )

    kept_known : (w : Where) → Left (Ok (record c { at = w }, reactive.Scope block ∷ []))
    unfolding Known
    kept_known w = λ all next.
        let a = h (All-right (IsInTable (lengths env 0)) (scope_name block.scope) x all) next in (
          a.0,
          (
            a.1.0,
            subst (All (In (taken c))) (sym (alone-Scope names_of_parts lists_monoid block))
                (All-append (In (taken c)) (scope_name block.scope) (names_in block.instructions)
                (first (taken c) (scope_name block.scope)
                (All-left (IsInTable (lengths env 0)) (scope_name block.scope) x all))
                a.1.1),
          ),
        )

    left_known : (w : Where) (met : Option ReactiveScopeEarlyReturn) → c.met ≡ met → Left (scope_at env w met block c)
    left_known Outside (Some entry) is = ended_known (slice_get env.scopes block.scope.0) entry is
    left_known Outside None is = kept_known Outside
    left_known Within met is = kept_known Within
    left_known PassedOver met is = kept_known PassedOver

  scope_known : (x : Names) (of : ScopeId) (s : Progress) (inside : Result (Progress × ReactiveBlock) Fault)
      → Known x ((early_return_rules env).into_scope of s) (having names_in inside)
      → Known (scope_name of ++ x) s (having (collected_list names_of_parts)
      (bind inside (λ c. (early_return_rules env).scope s (record { scope = of; instructions = c.1 }) c.0)))
  unfolding Known
  scope_known x of s (Err fault) h = tt
  scope_known x of s (Ok c) h = left_known s c.0 x (record { scope = of; instructions = c.1 }) h s.at c.0.met refl

  pruned_known : (x : Names) (of : ScopeId) (s : Progress) (inside : Result (Progress × ReactiveBlock) Fault)
      → Known x s (having names_in inside) → Known (scope_name of ++ x) s (having (collected_list names_of_parts)
      (bind inside (λ c. (early_return_rules env).pruned_scope (record { scope = of; instructions = c.1 }) c.0)))
  unfolding Known
  pruned_known x of s (Err fault) h = tt
  pruned_known x of s (Ok c) h = λ all next.
      let a = h (All-right (IsInTable (lengths env 0)) (scope_name of) x all) next in (
        a.0,
        (
          a.1.0,
          subst (All (In (taken c.0)))
              (sym (alone-PrunedScope names_of_parts lists_monoid (record { scope = of; instructions = c.1 })))
              (All-append (In (taken c.0)) (scope_name of) (names_in c.1)
              (first (taken c.0) (scope_name of) (All-left (IsInTable (lengths env 0)) (scope_name of) x all)) a.1.1),
        ),
      )

  block_known : (x : Names) (s : Progress) (inside : Result (Progress × List ReactiveStatement) Fault)
      → Known x s (having (collected_list names_of_parts) inside)
      → Known x s (having (collected_list names_of_parts) (bind inside (λ c. (early_return_rules env).block c.1 c.0)))
  unfolding Known
  block_known x s (Err fault) h = tt
  block_known x s (Ok c) h = h

  all_known : HoldsOfRules (early_return_rules env) Known names_of_parts names_of_parts
  all_known = record {
    nothing = λ s. stays [] s [] refl;
    both = both_known;
    value = λ id x s. stays (names_of_parts.value id x) s (names_of_parts.value id x) refl;
    place = λ id x s. stays (names_of_parts.place id x) s (names_of_parts.place id x) refl;
    row = λ x s. stays (names_of_parts.row x) s (collected_list names_of_parts (reactive.Instruction x ∷ []))
        (alone-Instruction names_of_parts lists_monoid x);
    leaf = leaf_known;
    terminal = terminal_known;
    scope = scope_known;
    pruned_scope = pruned_known;
    block = block_known;
  }

  -- the numbers of the tree with these early returns are in the tables that have their entries
  body_known : (before after : ReactiveBlock) (made : List EarlyReturn) (is : MakesEarlyReturns env before after made)
      → All (IsInTable (lengths env 0)) (names_in before) → All (In (length made + pending is.met)) (names_in after)
  unfolding Known
  body_known before after made is all =
      ((subst (λ e. Known (names_in before) nothing_met (having names_in e)) is.rebuilt
      (rebuilt_holds (early_return_rules env) Known names_of_parts names_of_parts lists_monoid all_known before
      nothing_met))
      all tt).1.1

-- each early return has five identifiers
made_identifiers : (made : List EarlyReturn) (env : Environment)
    → length (with_early_returns made env).identifiers ≡ length env.identifiers + 5 * length made
made_identifiers [] env = omega arith
made_identifiers (x ∷ xs) env = omega (arith, made_identifiers xs (with_early_return x env), five_identifiers env x)

-- an environment that has grown by the entries of these early returns
module _ (before after : ReactiveFunction) (old new : Environment) (made : List EarlyReturn)
    (makes : MakesEarlyReturns old before.body after.body made) (entries : new ≡ with_early_returns made old)
    (grows : Grows old new) where
  abbrev count : ℕ
  count = length made + pending makes.met

  -- when the walk ends, no early return is begun
  none_begun : makes.met ≡ None
  none_begun = let moved = after_body old before.body after.body made makes in moved.sound.outside moved.place

  reach : (t : TableName) → length_of (tables old count) t ≤ length_of (lengths new 0) t
  reach table.Identifiers = omega (
    arith,
    ap pending none_begun,
    made_identifiers made old,
    ap (λ (env : Environment). length env.identifiers) entries,
  )
  reach table.Declarations = omega (
    arith,
    ap pending none_begun,
    made_identifiers made old,
    ap (λ (env : Environment). length env.identifiers) entries,
  )
  reach table.Types = grows.numbers.types
  reach table.Scopes = grows.numbers.scopes
  reach table.Functions = grows.numbers.functions
  reach table.Instructions = omega arith
  reach table.Shapes = grows.numbers.shapes

  -- where the numbers of the tree are in their tables, those of the tree with its early returns are in the new ones
  pub early_returns_known : after ≡ record before { body = after.body } → TreeInTables before old
      → TreeInTables after new
  early_returns_known header known = tree_known old new grows before after header
      (All-weaker (In old count) (IsInTable (lengths new 0)) (λ name h. omega (arith, h, reach name.0))
      (names_in after.body) (body_known old before.body after.body made makes known.body)) known

-- the same of a call that adds the entries of early returns that were made in a body, if it succeeds
pub known_if_ok : (result : Result (Unit {0}) Fault) (before after : ReactiveFunction) (old new : Environment)
    (made : List EarlyReturn) → MakesEarlyReturns old before.body after.body made
    → after ≡ record before { body = after.body } → OnOk result (new ≡ with_early_returns made old) → Grows old new
    → OnOk result (TreeInTables before old → TreeInTables after new)
known_if_ok (Ok done) before after old new made makes header entries grows =
    early_returns_known before after old new made makes entries grows header
known_if_ok (Err fault) before after old new made makes header entries grows = tt
