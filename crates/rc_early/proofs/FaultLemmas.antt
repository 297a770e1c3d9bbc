-- The faults of the rules: numbers run out, or the scope of a scope block is outside its table.
use Rattle.std.proofs.Common.{◌≡◌, ◌∙◌, ◌+◌, ◌≤◌, ◌⊎◌, inl, inr, Bool, true, false, ℕ, List, Option, None, Some, Any}
use Rattle.std.proofs.Common.{Result, Ok, Err, refl, sym, ap, subst, length, slice_get, arith}
use Rattle.std.specs.List.{flat_map}
use Rattle.std.specs.Prelude.{IfErr, IsTrue, if◌then◌else◌}
use Rattle.rc_early.proofs.MadeLemmas.{numbers_left}
use Rattle.rc_early.proofs.RoomLemmas.{room_fits}
use Rattle.rc_early.specs.EarlyReturned.{EndsAtFault, Progress, early_return_rules, ended, nothing_met, return_within}
use Rattle.rc_early.specs.EarlyReturned.{scope_at, terminal_at}
use Rattle.rc_early.specs.Entries.{has_room, next_entry}
use Rattle.rc_early.specs.Statements.{stored_return}
use Rattle.rc_early.specs.declared.early_return.Where.{Where}
use Rattle.rc_early.specs.declared.early_return.Where.TheVariants.{Outside, Within, PassedOver}
use Rattle.rc_hir.specs.Model.{Environment, Fault, Place, ReactiveScope, ReactiveScopeEarlyReturn}
use Rattle.rc_hir.specs.Names.{IsInTable, IsOutside, lengths}
use Rattle.rc_hir.specs.PartNames.{Name, parameter_names, scope_name}
use Rattle.rc_hir.specs.declared.fault.Fault.TheVariants.{BadName, NoIds, NoMemory}
use Rattle.rc_hir.specs.declared.fault.TableName.TheVariants.{Scopes}
use Rattle.rc_tree.proofs.AnyLemmas.{Any-right, none_of}
use Rattle.rc_tree.proofs.PlaceLemmas.{past_end}
use Rattle.rc_tree.proofs.RebuiltFaultsLemmas as only
use Rattle.rc_tree.proofs.RebuiltNamesFault.{FaultsByScopes, rebuilt_faults}
use Rattle.rc_tree.specs.inside.RuleFaults.{FaultsOnly}
use Rattle.rc_tree.specs.ScopesIn.{scopes_in}
use Rattle.rc_tree.specs.TreeNames.{TreeInTables, TreeNamesOutside, names_in}
use Rattle.rc_tree.specs.Unrolled.{UnrolledTerminal}
use Rattle.rc_tree.specs.Model.{ReactiveBlock, ReactiveFunction, ReactiveScopeBlock, ReactiveStatement}
use Rattle.rc_tree.specs.Model.{ReactiveTerminalStatement}
use Rattle.rc_tree.specs.declared.statement.ReactiveStatement.TheOpen as layer
use Rattle.rc_tree.specs.declared.terminal.ReactiveTerminal.{out-ReactiveTerminal}

err_weaker : {A E : Type 0} (P Q : E → Type 0) (r : Result A E) → ((e : E) → P e → Q e) → IfErr r P → IfErr r Q
err_weaker P Q (Ok a) weaker h = tt
err_weaker P Q (Err e) weaker h = weaker e h

module _ (env : Environment) where
  return_fault : (met : Option ReactiveScopeEarlyReturn) (place : Place) (s : Progress)
      → IfErr (return_within env met place s) (λ f. f ≡ NoIds)
  return_fault (Some entry) place s = tt
  return_fault None place s = by (has_room env (length s.made + 1))
    where
      by : (room : Bool) → IfErr {T = Progress × List ReactiveStatement} (if room
          then Ok (
            record s { met = Some (next_entry env (length s.made) place.span) },
            stored_return (next_entry env (length s.made) place.span) place,
          )
          else Err NoIds) (λ f. f ≡ NoIds)
      by true = tt
      by false = refl

  -- a terminal has no fault but that
  terminal_fault : (w : Where) (terminal : UnrolledTerminal) (x : ReactiveTerminalStatement) (s : Progress)
      → IfErr (terminal_at env w terminal x s) (λ f. f ≡ NoIds)
  terminal_fault Outside terminal x s = tt
  terminal_fault PassedOver terminal x s = tt
  terminal_fault Within (layer.Return place id) x s = return_fault s.met place s
  terminal_fault Within (layer.Break target kind id) x s = tt
  terminal_fault Within (layer.Continue target kind id) x s = tt
  terminal_fault Within (layer.Throw place id) x s = tt
  terminal_fault Within (layer.Switch test cases id) x s = tt
  terminal_fault Within (layer.DoWhile body test id) x s = tt
  terminal_fault Within (layer.While test body id) x s = tt
  terminal_fault Within (layer.For init test update body id) x s = tt
  terminal_fault Within (layer.ForOf init test body span id) x s = tt
  terminal_fault Within (layer.ForIn init body span id) x s = tt
  terminal_fault Within (layer.If test consequent alternate id) x s = tt
  terminal_fault Within (layer.Label body id) x s = tt
  terminal_fault Within (layer.Try body binding handler id) x s = tt

  -- the fault names the scope, which is outside its table
  abbrev NamesScope : ReactiveScopeBlock → Fault → Type 0
  NamesScope block fault = (fault ≡ BadName Scopes block.scope.0) × (length env.scopes ≤ block.scope.0)

  ended_fault : (entry : ReactiveScopeEarlyReturn) (block : ReactiveScopeBlock) (s : Progress)
      (found : Option ReactiveScope) → slice_get env.scopes block.scope.0 ≡ found
      → IfErr (ended found entry block s) (NamesScope block)
  ended_fault entry block s None is = (refl, past_end env.scopes block.scope.0 is)
  ended_fault entry block s (Some scope) is = tt

  scope_fault : (w : Where) (met : Option ReactiveScopeEarlyReturn) (block : ReactiveScopeBlock) (s : Progress)
      → IfErr (scope_at env w met block s) (NamesScope block)
  scope_fault Outside (Some entry) block s = ended_fault entry block s (slice_get env.scopes block.scope.0) refl
  scope_fault Outside None block s = tt
  scope_fault Within met block s = tt
  scope_fault PassedOver met block s = tt

  abbrev IsFault : Fault → Type 0
  IsFault fault = (fault ≡ NoIds) ⊎ ((index : ℕ) × (fault ≡ BadName Scopes index))

  only_these : FaultsOnly (early_return_rules env) IsFault
  only_these = record {
    row = λ x s. tt;
    terminal = λ x s. err_weaker (λ f. f ≡ NoIds) IsFault
        (terminal_at env s.at (out-ReactiveTerminal x.terminal) x s) (λ f is. inl is)
        (terminal_fault s.at (out-ReactiveTerminal x.terminal) x s);
    scope = λ met x s. err_weaker (NamesScope x) IsFault (scope_at env met.at s.met x s)
        (λ f is. inr (x.scope.0, is.0)) (scope_fault met.at s.met x s);
    pruned_scope = λ x s. tt;
    block = λ xs s. tt;
  }

  -- a scope that is outside its table is a number of the tree
  module _ (index : ℕ) where
    abbrev bad : Fault
    bad = BadName Scopes index

    by_scopes : FaultsByScopes (early_return_rules env) bad (IsOutside (lengths env 0) bad)
    by_scopes = record {
      row = λ x s. tt;
      terminal = λ x s. err_weaker (λ f. f ≡ NoIds) (λ f. ¬ (f ≡ bad))
          (terminal_at env s.at (out-ReactiveTerminal x.terminal) x s)
          (λ f is other. let e : NoIds ≡ bad = sym is ∙ other in let no : ⊥ = cc in no)
          (terminal_fault s.at (out-ReactiveTerminal x.terminal) x s);
      pruned_scope = λ x s. tt;
      scope = λ met x s. err_weaker (NamesScope x) (λ f. f ≡ bad → Any (IsOutside (lengths env 0) bad)
          (scope_name x.scope))
          (scope_at env met.at s.met x s)
          (λ f is e.
          let name : Name = (Scopes, x.scope.0) in
          (0, name, omega arith, refl, (sym e ∙ is.0, is.1))) (scope_fault met.at s.met x s);
      block = λ xs s. tt;
    }

  -- the fault at which making early returns ends
  pub ends_at : (before : ReactiveBlock) (fault : Fault) → EndsAtFault env before fault
      → (fault ≡ NoIds) ⊎ Any (IsOutside (lengths env 0) fault) (names_in before)
  ends_at before fault ends =
      by (subst (λ r. IfErr r IsFault) ends (only.rebuilt_faults IsFault (early_return_rules env) only_these before
      nothing_met))
    where
      by : IsFault fault → (fault ≡ NoIds) ⊎ Any (IsOutside (lengths env 0) fault) (names_in before)
      by (inl is) = inl is
      by (inr is) = inr (subst (λ f. Any (IsOutside (lengths env 0) f) (names_in before)) (sym is.1)
          (subst (λ r. IfErr r (λ f. f ≡ bad is.0 → Any (IsOutside (lengths env 0) (bad is.0)) (names_in before)))
          (ends ∙ ap (λ f. Err f) is.1)
          (rebuilt_faults (early_return_rules env) (bad is.0) (IsOutside (lengths env 0) (bad is.0)) (by_scopes is.0)
          before nothing_met) refl))

  -- a call that is out of memory or ends at such a fault
  module _ (func : ReactiveFunction) (fault : Fault) (ends : (fault ≡ NoMemory) ⊎ EndsAtFault env func.body fault)
      (result : Result (Unit {0}) Fault) (is : result ≡ Err fault) where
    pub named_outside : IfErr result (λ f. (f ≡ NoMemory) ⊎ ((f ≡ NoIds) ⊎ TreeNamesOutside func env f))
    named_outside = subst (λ r. IfErr r (λ f. (f ≡ NoMemory) ⊎ ((f ≡ NoIds) ⊎ TreeNamesOutside func env f))) (sym is)
        (by ends)
      where
        of : (fault ≡ NoIds) ⊎ Any (IsOutside (lengths env 0) fault) (names_in func.body)
            → (fault ≡ NoIds) ⊎ TreeNamesOutside func env fault
        of (inl none) = inl none
        of (inr some) = inr (inl (Any-right (IsOutside (lengths env 0) fault) (flat_map parameter_names func.params)
            (names_in func.body) some))

        by : (fault ≡ NoMemory) ⊎ EndsAtFault env func.body fault
            → (fault ≡ NoMemory) ⊎ ((fault ≡ NoIds) ⊎ TreeNamesOutside func env fault)
        by (inl memory) = inl memory
        by (inr at) = inr (of (ends_at func.body fault at))

    pub only_numbers : TreeInTables func env → IfErr result (λ f. (f ≡ NoMemory) ⊎ (f ≡ NoIds))
    only_numbers known = subst (λ r. IfErr r (λ f. (f ≡ NoMemory) ⊎ (f ≡ NoIds))) (sym is) (by ends)
      where
        of : (fault ≡ NoIds) ⊎ Any (IsOutside (lengths env 0) fault) (names_in func.body) → fault ≡ NoIds
        of (inl none) = none
        of (inr some) = absurd (none_of (IsInTable (lengths env 0)) (IsOutside (lengths env 0) fault)
            (λ name within outside. let no : ⊥ = omega (arith, within, outside.1) in no) (names_in func.body) known.body
            some)

        by : (fault ≡ NoMemory) ⊎ EndsAtFault env func.body fault → (fault ≡ NoMemory) ⊎ (fault ≡ NoIds)
        by (inl memory) = inl memory
        by (inr at) = inr (of (ends_at func.body fault at))

    pub has_numbers : IsTrue (has_room env (length (scopes_in func.body))) → ¬ (result ≡ Err NoIds)
    has_numbers room none = by ends
      where
        same : fault ≡ NoIds
        same = let e : Err fault ≡ Err NoIds = sym is ∙ none in cc

        by : (fault ≡ NoMemory) ⊎ EndsAtFault env func.body fault → ⊥
        by (inl memory) = let e : NoMemory ≡ NoIds = sym memory ∙ same in let no : ⊥ = cc in no
        by (inr at) = numbers_left env func.body (at ∙ ap (λ f. Err f) same)
            (room_fits env (length (scopes_in func.body)) room)
