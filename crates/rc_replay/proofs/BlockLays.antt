-- What the statements of a block add to the table, from the last one to the first.
use Rattle.std.proofs.Common.{◌≡◌, ℕ, suc, ◌+◌, ◌<◌, List, ◌∷◌, Option, Some, None, drop, length, slice_get, get_or, refl, sym, ap, ◌∙◌, subst, arith}
use Rattle.std.specs.Option.{option_map_or}
use Rattle.std.proofs.lemmas.List.{drop_more}
use Rattle.std.proofs.lemmas.Option.{slice_get_read}
use Rattle.rc_hir.specs.Model.{Environment, Place}
use Rattle.rc_tree.specs.Model.{ReactiveStatement}
use Rattle.rc_tree.specs.declared.statement.ReactiveStatement.{out-ReactiveStatement}
use Rattle.rc_runs.specs.PlainTree.{Cons}
use Rattle.rc_runs.specs.Returning.{returning_after, returning_statement, stored_by}
use Rattle.rc_runs.specs.TreeOf.{statement_of}
use Rattle.rc_replay.specs.declared.exits.Exits.{Exits as LaidExits}
use Rattle.rc_replay.specs.declared.layout.Layout.{Layout}
use Rattle.rc_replay.specs.inside.EarlyReturn.{stored_in}
use Rattle.rc_replay.specs.inside.LaidBody.{LaysList, LaysStatement, stored_before}
use Rattle.rc_replay.specs.inside.LaidExits.{exits_of, laid_before}
use Rattle.rc_replay.specs.inside.Lowered.{LowersList, LowersStatement, one_statement}
use Rattle.rc_replay.proofs.EarlyReturnLemmas.{stored-plain}
use Rattle.rc_replay.proofs.LayoutLemmas.{lays_more, lays_both}

-- a statement before others
pub lays_statement : {env : Environment} {exits x : LaidExits} {stored : Option Place} {statement : ReactiveStatement}
    {rest : List ReactiveStatement} {next start : ℕ} {a b c : Layout} → x ≡ laid_before next exits
    → LaysList env (stored_in (out-ReactiveStatement statement)) exits rest a b next
    → LaysStatement env stored x statement b c start → LaysList env stored exits (statement ∷ rest) a c start
unfolding returning_after
lays_statement {env} {exits} {x} {stored} {statement} {next = next} {start} {a} {b} {c} p following one =
    let own : LaysStatement env stored (laid_before next exits) statement b c start =
    subst (λ x. LaysStatement env stored x statement b c start) p one in
    let stores : stored_in (out-ReactiveStatement statement) ≡ stored_by own.plain =
    sym (ap (λ s. stored_in (out-ReactiveStatement s)) own.same) ∙ stored-plain own.plain in
    record {
      plain = Cons own.plain following.plain;
      same = λ i. own.same i ∷ following.same i;
      lays = lays_more (λ table h. one_statement (subst (λ st. LowersList table env (exits_of exits a.labels)
          (returning_after env st following.plain) next) stores h.0) (subst (λ labels. LowersStatement table env
          (exits_of (laid_before next exits) labels) (returning_statement env stored own.plain) start)
          following.lays.labels h.1)) (lays_both following.lays own.lays);
    }

-- one more statement of a list, where those after it are laid out
pub statement_step : {env : Environment} {exits x : LaidExits} {stored : Option Place} {next start : ℕ} {a b c : Layout}
    (statements : List ReactiveStatement) (i : ℕ) (statement : ReactiveStatement) → i < length statements
    → statement ≡ get_or statements i statement → stored ≡ stored_before statements i → x ≡ laid_before next exits
    → LaysList env (stored_before statements (suc i)) exits (drop (suc i) statements) a b next
    → LaysStatement env stored x statement b c start
    → LaysList env (stored_before statements i) exits (drop i statements) a c start
statement_step {env} {exits} {x} {next = next} {start} {a} {b} {c} statements i statement inside is stored p following one =
    let found : slice_get statements i ≡ Some statement = slice_get_read statements (length statements) i statement refl inside is in
    let stores : stored_before statements (suc i) ≡ stored_in (out-ReactiveStatement statement) =
    ap (λ found. option_map_or (λ statement. stored_in (out-ReactiveStatement statement)) found None) found in
    let more : i + 1 ≡ suc i = omega (arith) in
    let whole : drop i statements ≡ statement ∷ drop (suc i) statements =
    drop_more statements i statement inside ∙ (λ j. sym is j ∷ drop (more j) statements) in
    subst (λ list. LaysList env (stored_before statements i) exits list a c start) (sym whole)
    (lays_statement p (subst (λ st. LaysList env st exits (drop (suc i) statements) a b next) stores following)
    (subst (λ st. LaysStatement env st x statement b c start) stored one))
