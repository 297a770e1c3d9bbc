-- A tree in which each scope block that computes nothing memoized gave way to its statements.
-- Blocks are judged from the inside.
use Rattle.std.specs.Prelude.{◌≡◌, Bool, true, List, [], ◌∷◌, Ok, if◌then◌else◌, Contains}
use Rattle.rc_hir.specs.Model.{Environment}
use Rattle.rc_names.specs.Numbers.{DeclarationId, ScopeId}
use Rattle.rc_tree.specs.Decided.{FateRule}
use Rattle.rc_tree.specs.Rebuilt.{Rules, keeps_statements, rebuilt_block}
use Rattle.rc_tree.specs.ScopesIn.{scopes_in}
use Rattle.rc_tree.specs.Model.{ReactiveBlock, ReactiveFunction, ReactiveScopeBlock, ReactiveStatement}
use Rattle.rc_tree.specs.declared.fate.Fate.TheVariants.{NotEscaping}
use Rattle.rc_tree.specs.declared.fate.ScopeFate.{ScopeFate}
use Rattle.rc_tree.specs.declared.statement.ReactiveStatement.TheVariants as reactive
use Rattle.rc_memo.specs.Record.{IsRecordOf}
use Rattle.rc_memo.specs.declared.record.MemoRecord.{MemoRecord}
use Rattle.rc_escape.specs.MemoBounds.{IsInLeastSet}
use Rattle.rc_escape.specs.declared.not_escaping.met.Met.{Met}
use Rattle.rc_escape.specs.Met.{nothing_met, with_store_if, with_dissolved_if}
use Rattle.rc_escape.specs.Outputs.{dissolved_fates, outputs, is_dissolved, staying_scopes}
use Rattle.rc_escape.specs.Flags.{stored_by_value, flagged_row}
use Rattle.rc_escape.specs.WholeRecord.{AreMemoized}

-- the statements of a block that gives way, or the block
abbrev pub in_place_of : Bool → ReactiveScopeBlock → List ReactiveStatement
in_place_of dissolved block = if dissolved then block.instructions.statements else reactive.Scope block ∷ []

module _ (env : Environment) where
  -- the rule for each statement, where these names are memoized; the state is what is met so far
  abbrev pub not_escaping_rules : List DeclarationId → Rules Met
  not_escaping_rules set = record {
    row = λ row met. Ok (
      with_store_if (stored_by_value env row.lvalue row.value) met,
      reactive.Instruction (flagged_row env met row) ∷ [],
    );
    terminal = λ statement met. Ok (met, reactive.Terminal statement ∷ []);
    pruned_scope = λ block met. Ok (met, reactive.PrunedScope block ∷ []);
    into_scope = λ scope met. met;
    scope = λ around block met. Ok (
      with_dissolved_if (is_dissolved env set block.scope) block.scope met,
      in_place_of (is_dissolved env set block.scope) block,
    );
    block = keeps_statements;
  }

  -- the second block is the first one, where these names are memoized
  pub record IsRebuiltFor (set : List DeclarationId) (before after : ReactiveBlock) : Type 0 where
    pub left : Met
    pub rebuilt : rebuilt_block (not_escaping_rules set) before nothing_met ≡ Ok (left, after)

  -- the block is the function's body without the scope blocks that compute nothing memoized; the others stay
  pub record IsWithoutNotEscaping (func : ReactiveFunction) (after : ReactiveBlock) : Type 0 where
    pub set : List DeclarationId
    pub memoized : AreMemoized env func set
    pub rebuilt : IsRebuiltFor set func.body after
    pub left : scopes_in after ≡ staying_scopes env set (scopes_in func.body)

  -- the same with what the pass decided: the scopes of the blocks that gave way, in the order in which these ended
  pub record HasDecidedNotEscaping (func : ReactiveFunction) (after : ReactiveBlock) (log : List ScopeFate) : Type 0
    where
      pub without : IsWithoutNotEscaping func after
      pub told : log ≡ dissolved_fates env without.set (scopes_in func.body)

  -- the rule of the pass, where these names are memoized: the scope's block gives way
  abbrev pub not_escaping_rule : List DeclarationId → FateRule
  not_escaping_rule set scope fate = (fate ≡ NotEscaping) × (is_dissolved env set scope ≡ true)

  -- the name is an output of the scope that must be memoized: its level asks that wherever the name is needed, and an
  -- escaping name reaches it through recorded dependencies
  pub record IsNeededOutput (func : ReactiveFunction) (scope : ScopeId) (name : DeclarationId) : Type 0 where
    pub output : Contains (outputs env scope) name
    pub rec : MemoRecord
    pub recorded : IsRecordOf func env rec
    pub least : IsInLeastSet rec name
