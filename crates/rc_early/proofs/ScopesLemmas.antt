-- Making early returns keeps the scope blocks of a tree.
use Rattle.std.proofs.Common.{◌≡◌, ◌∙◌, ◌+◌, ◌++◌, Bool, true, false, List, [], ◌∷◌, Option, None, Some, Result, Ok}
use Rattle.std.proofs.Common.{Err}
use Rattle.std.proofs.Common.{refl, sym, ap, subst, length, slice_get, append-nil}
use Rattle.std.specs.Prelude.{IfOk, if◌then◌else◌}
use Rattle.rc_early.specs.EarlyReturned.{MakesEarlyReturns, Progress, early_return_rules, ended, nothing_met}
use Rattle.rc_early.specs.EarlyReturned.{return_within}
use Rattle.rc_early.specs.EarlyReturned.{scope_at, terminal_at, with_sentinel}
use Rattle.rc_early.specs.Entries.{has_room, next_entry}
use Rattle.rc_early.specs.Statements.{after_sentinel, call, labeled, load_argument, load_for, load_symbol, store}
use Rattle.rc_early.specs.Statements.{stored_return, temporary, unset}
use Rattle.rc_early.specs.declared.early_return.EarlyReturn.{EarlyReturn}
use Rattle.rc_early.specs.declared.early_return.Where.{Where}
use Rattle.rc_early.specs.declared.early_return.Where.TheVariants.{Outside, Within, PassedOver}
use Rattle.rc_hir.specs.Model.{Environment, Fault, Place, ReactiveScope, ReactiveScopeEarlyReturn}
use Rattle.rc_hir.specs.declared.fault.Fault.TheVariants.{NoIds}
use Rattle.rc_hir.specs.declared.pattern.InstructionKind.TheVariants.{Let}
use Rattle.rc_hir.specs.declared.place.Effect.TheVariants.{ConditionallyMutate}
use Rattle.rc_names.specs.Numbers.{ScopeId}
use Rattle.rc_tree.proofs.AloneLemmas.{alone-Instruction, alone-PrunedScope, alone-Scope, alone-Terminal}
use Rattle.rc_tree.proofs.CollectedLemmas.{collected-block, collected-Break, collected-Instruction, collected-Label}
use Rattle.rc_tree.proofs.CollectedLemmas.{collected-Terminal}
use Rattle.rc_tree.proofs.JoiningLemmas.{lists_monoid}
use Rattle.rc_tree.proofs.RebuiltHolds.{HoldsOfRules, and_then, having, rebuilt_holds}
use Rattle.rc_tree.proofs.TerminalShapes.{Leaf, Break, Continue, Return, Throw, collected-leaf, has_inside, leaf}
use Rattle.rc_tree.proofs.TerminalShapes.{of_leaf}
use Rattle.rc_tree.specs.Collected.{Contributions, collected_list, collected_statement, collected_terminal}
use Rattle.rc_tree.specs.Joining.{all_of}
use Rattle.rc_tree.specs.Rebuilt.{Rebuilds}
use Rattle.rc_tree.specs.ScopesIn.{scope_parts, scopes_in}
use Rattle.rc_tree.specs.Step.{bind}
use Rattle.rc_tree.specs.Unrolled.{UnrolledTerminal}
use Rattle.rc_tree.specs.Model.{ReactiveBlock, ReactiveInstruction, ReactiveLabel, ReactiveScopeBlock}
use Rattle.rc_tree.specs.Model.{ReactiveStatement}
use Rattle.rc_tree.specs.Model.{ReactiveTerminal, ReactiveTerminalStatement}
use Rattle.rc_tree.specs.declared.kind.ReactiveTerminalTargetKind.TheVariants.{Labeled}
use Rattle.rc_tree.specs.declared.statement.ReactiveStatement.TheOpen as layer
use Rattle.rc_tree.specs.declared.statement.ReactiveStatement.TheVariants as reactive
use Rattle.rc_tree.specs.declared.terminal.ReactiveTerminal.{out-ReactiveTerminal}
use Rattle.rc_tree.specs.declared.terminal.ReactiveTerminal.TheVariants as tree

-- what six statements hold, from what each of them does
pub held_by_six : {A : Type 0} (adds : Contributions A) (a b c d e f : ReactiveStatement)
    {of_a of_b of_c of_d of_e of_f : A} → collected_statement adds a ≡ of_a → collected_statement adds b ≡ of_b
    → collected_statement adds c ≡ of_c → collected_statement adds d ≡ of_d → collected_statement adds e ≡ of_e
    → collected_statement adds f ≡ of_f → collected_list adds (a ∷ b ∷ c ∷ d ∷ e ∷ f ∷ [])
    ≡ all_of adds.joining (of_a ∷ of_b ∷ of_c ∷ of_d ∷ of_e ∷ of_f ∷ [])
held_by_six adds a b c d e f is_a is_b is_c is_d is_e is_f = λ i.
    all_of adds.joining (is_a i ∷ is_b i ∷ is_c i ∷ is_d i ∷ is_e i ∷ is_f i ∷ [])

-- the scopes of one statement
abbrev scopes_of : ReactiveStatement → List ScopeId
scopes_of = collected_statement scope_parts

row_none : (x : ReactiveInstruction) → scopes_of (reactive.Instruction x) ≡ []
row_none x = collected-Instruction scope_parts x

-- the statements of an early return have no scope blocks but those of the block's own
stored_none : (entry : ReactiveScopeEarlyReturn) (place : Place)
    → collected_list scope_parts (stored_return entry place) ≡ []
stored_none entry place =
    let jump : ReactiveTerminalStatement = record { terminal = tree.Break entry.label Labeled unset; label = None } in
    let one : scopes_of (reactive.Terminal jump) ≡ [] =
    collected-Terminal scope_parts jump ∙ collected-Break scope_parts entry.label Labeled unset in
    ap (λ xs. xs ++ (scopes_of (reactive.Terminal jump) ++ [])) (row_none _) ∙ ap (λ xs. xs ++ []) one

sentinel_same : (entry : ReactiveScopeEarlyReturn) (block : ReactiveBlock)
    → scopes_in (record { statements = after_sentinel entry block }) ≡ scopes_in block
sentinel_same entry block =
    let under : ReactiveTerminalStatement = record {
      terminal = tree.Label block unset;
      label = Some (record { id = entry.label; implicit = false });
    } in
    let own : scopes_of (labeled entry block) ≡ scopes_in block =
    collected-Terminal scope_parts under ∙ collected-Label scope_parts block unset in
    collected-block scope_parts (record { statements = after_sentinel entry block })
    ∙ held_by_six scope_parts (load_symbol entry) (load_for entry) (load_argument entry) (call entry)
    (store Let ConditionallyMutate entry.value entry.span (temporary entry.value 1)) (labeled entry block)
    (row_none _) (row_none _) (row_none _) (row_none _) (row_none _) own
    ∙ append-nil (scopes_in block)

-- a leaf, unrolled
unfoldable pub open_leaf : Leaf → UnrolledTerminal
open_leaf (Break target kind id) = layer.Break target kind id
open_leaf (Continue target kind id) = layer.Continue target kind id
open_leaf (Return place id) = layer.Return place id
open_leaf (Throw place id) = layer.Throw place id

pub out_leaf : (shape : Leaf) → out-ReactiveTerminal (leaf shape) ≡ open_leaf shape
unfolding open_leaf
out_leaf (Break target kind id) = tree.outs-Break target kind id
out_leaf (Continue target kind id) = tree.outs-Continue target kind id
out_leaf (Return place id) = tree.outs-Return place id
out_leaf (Throw place id) = tree.outs-Throw place id

leaf_none : (shape : Leaf) → of_leaf scope_parts shape ≡ []
leaf_none (Break target kind id) = refl
leaf_none (Continue target kind id) = refl
leaf_none (Return place id) = refl
leaf_none (Throw place id) = refl

module _ (env : Environment) where
  -- what replaces a part has its scope blocks
  unfoldable Same : List ScopeId → Progress → Result (Progress × List ScopeId) Fault → Type 0
  Same x s e = IfOk e (λ c. c.1 ≡ x)

  both_same : (x y : List ScopeId) (s : Progress) (first : Result (Progress × List ScopeId) Fault)
      (next : Rebuilds Progress (List ScopeId)) → Same x s first → IfOk first (λ c. Same y c.0 (next c.0))
      → Same (x ++ y) s (and_then (λ a b. a ++ b) first next)
  unfolding Same
  both_same x y s (Err fault) next h k = tt
  both_same x y s (Ok c) next h k = by (next c.0) k
    where
      by : (e : Result (Progress × List ScopeId) Fault) → IfOk e (λ d. d.1 ≡ y)
          → IfOk (having (λ b. c.1 ++ b) e) (λ d. d.1 ≡ x ++ y)
      by (Ok d) j = λ i. h i ++ j i
      by (Err fault) j = tt

  return_same : (met : Option ReactiveScopeEarlyReturn) (place : Place) (s : Progress)
      → Same [] s (having (collected_list scope_parts) (return_within env met place s))
  unfolding Same
  return_same (Some entry) place s = stored_none entry place
  return_same None place s = by (next_entry env (length s.made) place.span) (has_room env (length s.made + 1))
    where
      by : (entry : ReactiveScopeEarlyReturn) (room : Bool) → IfOk {T = Progress × List ScopeId}
          (having (collected_list scope_parts) (if room then Ok
          (record s { met = Some entry }, stored_return entry place)
          else Err NoIds)) (λ c. c.1 ≡ [])
      by entry true = stored_none entry place
      by entry false = tt

  leaf_at : (shape : Leaf) (w : Where) (x : ReactiveTerminalStatement) (s : Progress)
      → collected_list scope_parts (reactive.Terminal x ∷ []) ≡ []
      → Same [] s (having (collected_list scope_parts) (terminal_at env w (open_leaf shape) x s))
  unfolding Same open_leaf
  leaf_at (Return place id) Within x s none = return_same s.met place s
  leaf_at (Return place id) Outside x s none = none
  leaf_at (Return place id) PassedOver x s none = none
  leaf_at (Break target kind id) Within x s none = none
  leaf_at (Break target kind id) Outside x s none = none
  leaf_at (Break target kind id) PassedOver x s none = none
  leaf_at (Continue target kind id) Within x s none = none
  leaf_at (Continue target kind id) Outside x s none = none
  leaf_at (Continue target kind id) PassedOver x s none = none
  leaf_at (Throw place id) Within x s none = none
  leaf_at (Throw place id) Outside x s none = none
  leaf_at (Throw place id) PassedOver x s none = none

  leaf_same : (shape : Leaf) (label : Option ReactiveLabel) (s : Progress) → Same (of_leaf scope_parts shape) s
      (having (collected_list scope_parts) ((early_return_rules env).terminal
      (record { terminal = leaf shape; label = label }) s))
  leaf_same shape label s =
      let x : ReactiveTerminalStatement = record { terminal = leaf shape; label = label } in
      subst (λ none. Same none s (having (collected_list scope_parts) ((early_return_rules env).terminal x s)))
      (sym (leaf_none shape))
      (subst (λ t. Same [] s (having (collected_list scope_parts) (terminal_at env s.at t x s))) (sym (out_leaf shape))
      (leaf_at shape s.at x s
      (alone-Terminal scope_parts lists_monoid x ∙ collected-leaf scope_parts shape ∙ leaf_none shape)))

  -- a terminal with an inside stays
  pub inside_stays : (w : Where) (terminal : UnrolledTerminal) (x : ReactiveTerminalStatement) (s : Progress)
      → has_inside terminal ≡ true → terminal_at env w terminal x s ≡ Ok (s, reactive.Terminal x ∷ [])
  inside_stays Outside terminal x s deep = refl
  inside_stays PassedOver terminal x s deep = refl
  inside_stays Within (layer.Return place id) x s deep = let no : ⊥ = cc in absurd no
  inside_stays Within (layer.Break target kind id) x s deep = refl
  inside_stays Within (layer.Continue target kind id) x s deep = refl
  inside_stays Within (layer.Throw place id) x s deep = refl
  inside_stays Within (layer.Switch test cases id) x s deep = refl
  inside_stays Within (layer.DoWhile body test id) x s deep = refl
  inside_stays Within (layer.While test body id) x s deep = refl
  inside_stays Within (layer.For init test update body id) x s deep = refl
  inside_stays Within (layer.ForOf init test body span id) x s deep = refl
  inside_stays Within (layer.ForIn init body span id) x s deep = refl
  inside_stays Within (layer.If test consequent alternate id) x s deep = refl
  inside_stays Within (layer.Label body id) x s deep = refl
  inside_stays Within (layer.Try body binding handler id) x s deep = refl

  terminal_same : (x : List ScopeId) (label : Option ReactiveLabel) (s : Progress)
      (inside : Result (Progress × ReactiveTerminal) Fault)
      → IfOk inside (λ c. has_inside (out-ReactiveTerminal c.1) ≡ true)
      → Same x s (having (collected_terminal scope_parts) inside) → Same x s (having (collected_list scope_parts)
      (bind inside (λ c. (early_return_rules env).terminal (record { terminal = c.1; label = label }) c.0)))
  unfolding Same
  terminal_same x label s (Err fault) deep h = tt
  terminal_same x label s (Ok c) deep h =
      let statement : ReactiveTerminalStatement = record { terminal = c.1; label = label } in
      subst (λ e. IfOk {T = Progress × List ScopeId} (having (collected_list scope_parts) e) (λ d. d.1 ≡ x))
      (sym (inside_stays c.0.at (out-ReactiveTerminal c.1) statement c.0 deep))
      (alone-Terminal scope_parts lists_monoid statement ∙ h)

  ended_same : (found : Option ReactiveScope) (entry : ReactiveScopeEarlyReturn) (block : ReactiveScopeBlock)
      (x : List ScopeId) (s c : Progress) → scopes_in block.instructions ≡ x
      → Same (x ++ block.scope ∷ []) s (having (collected_list scope_parts) (ended found entry block c))
  unfolding Same
  ended_same None entry block x s c h = tt
  ended_same (Some scope) entry block x s c h = alone-Scope scope_parts lists_monoid (with_sentinel entry block)
      ∙ ap (λ xs. xs ++ block.scope ∷ []) (sentinel_same entry block.instructions ∙ h)

  left_same : (w : Where) (met : Option ReactiveScopeEarlyReturn) (block : ReactiveScopeBlock) (x : List ScopeId)
      (s c : Progress) → scopes_in block.instructions ≡ x
      → Same (x ++ block.scope ∷ []) s (having (collected_list scope_parts) (scope_at env w met block c))
  unfolding Same
  left_same Outside (Some entry) block x s c h = ended_same (slice_get env.scopes block.scope.0) entry block x s c h
  left_same Outside None block x s c h =
      alone-Scope scope_parts lists_monoid block ∙ ap (λ xs. xs ++ block.scope ∷ []) h
  left_same Within met block x s c h =
      alone-Scope scope_parts lists_monoid block ∙ ap (λ xs. xs ++ block.scope ∷ []) h
  left_same PassedOver met block x s c h =
      alone-Scope scope_parts lists_monoid block ∙ ap (λ xs. xs ++ block.scope ∷ []) h

  scope_same : (x : List ScopeId) (of : ScopeId) (s : Progress) (inside : Result (Progress × ReactiveBlock) Fault)
      → Same x ((early_return_rules env).into_scope of s) (having scopes_in inside)
      → Same (x ++ of ∷ []) s (having (collected_list scope_parts)
      (bind inside (λ c. (early_return_rules env).scope s (record { scope = of; instructions = c.1 }) c.0)))
  unfolding Same
  scope_same x of s (Err fault) h = tt
  scope_same x of s (Ok c) h = left_same s.at c.0.met (record { scope = of; instructions = c.1 }) x s c.0 h

  pruned_same : (x : List ScopeId) (of : ScopeId) (s : Progress) (inside : Result (Progress × ReactiveBlock) Fault)
      → Same x s (having scopes_in inside) → Same x s (having (collected_list scope_parts)
      (bind inside (λ c. (early_return_rules env).pruned_scope (record { scope = of; instructions = c.1 }) c.0)))
  unfolding Same
  pruned_same x of s (Err fault) h = tt
  pruned_same x of s (Ok c) h =
      alone-PrunedScope scope_parts lists_monoid (record { scope = of; instructions = c.1 }) ∙ h

  block_same : (x : List ScopeId) (s : Progress) (inside : Result (Progress × List ReactiveStatement) Fault)
      → Same x s (having (collected_list scope_parts) inside)
      → Same x s (having (collected_list scope_parts) (bind inside (λ c. (early_return_rules env).block c.1 c.0)))
  unfolding Same
  block_same x s (Err fault) h = tt
  block_same x s (Ok c) h = h

  same_alone : (s : Progress) (xs : List ScopeId) → xs ≡ [] → Same [] s (Ok (s, xs))
  unfolding Same
  same_alone s xs is = is

  all_same : HoldsOfRules (early_return_rules env) Same scope_parts scope_parts
  all_same = record {
    nothing = λ s. same_alone s [] refl;
    both = both_same;
    value = λ id x s. same_alone s [] refl;
    place = λ id x s. same_alone s [] refl;
    row = λ x s. same_alone s (collected_list scope_parts (reactive.Instruction x ∷ []))
        (alone-Instruction scope_parts lists_monoid x);
    leaf = leaf_same;
    terminal = terminal_same;
    scope = scope_same;
    pruned_scope = pruned_same;
    block = block_same;
  }

  -- the tree has the same scope blocks
  pub scopes_stay : (before after : ReactiveBlock) (made : List EarlyReturn) → MakesEarlyReturns env before after made
      → scopes_in after ≡ scopes_in before
  unfolding Same
  scopes_stay before after made is = subst (λ e. Same (scopes_in before) nothing_met (having scopes_in e)) is.rebuilt
      (rebuilt_holds (early_return_rules env) Same scope_parts scope_parts lists_monoid all_same before nothing_met)
