-- Every number of a spelled function and of its environment is in its table if those of the graph are.
use Rattle.std.proofs.Common.{List, [], ◌∷◌, length, sym, ap, subst}
use Rattle.std.specs.List.{All, flat_map}
use Rattle.std.proofs.lemmas.List.Elements.{All-append, All-nil}
use Rattle.rc_hir.specs.Names.{IsInTable, NamesInTables, lengths}
use Rattle.rc_hir.specs.PartNames.{parameter_names}
use Rattle.rc_hir.specs.Model.{Environment, HirFunction, ParamPattern}
use Rattle.rc_hir.specs.declared.place.ParamPattern.TheVariants as param
use Rattle.rc_tree.specs.TreeNames.{TreeInTables}
use Rattle.rc_tree.specs.Model.{ReactiveFunction}
use Rattle.rc_runs.specs.Spelled.{Spells}
use Rattle.rc_runs.proofs.AllLemmas.{All-left}
use Rattle.rc_runs.proofs.NoRowNamed.{IsNoRow, NoRows, all_in_environment, place_no_row}
use Rattle.rc_runs.proofs.SpelledNames.{spelled_names_held}

-- a parameter has no row's number
parameter_no_row : (x : ParamPattern) → NoRows (parameter_names x)
parameter_no_row (param.Place place) = place_no_row place
parameter_no_row (param.Spread spread) = place_no_row spread.place

params_no_row : (params : List ParamPattern) → NoRows (flat_map parameter_names params)
params_no_row [] = All-nil IsNoRow
params_no_row (x ∷ params) =
    All-append IsNoRow (parameter_names x) (flat_map parameter_names params) (parameter_no_row x) (params_no_row params)

-- a spelled function has the parameters of its graph
pub spelled_in_tables : (hir : HirFunction) (env : Environment) (func : ReactiveFunction) → NamesInTables hir env
    → Spells hir env func → TreeInTables func env
spelled_in_tables hir env func names spelled = record {
  params = subst (λ params. All (IsInTable (lengths env 0)) (flat_map parameter_names params))
      (sym (ap (λ f. f.params) spelled.whole))
      (all_in_environment env (length hir.instructions) (flat_map parameter_names hir.params) (params_no_row hir.params)
      (All-left (IsInTable (lengths env (length hir.instructions))) (flat_map parameter_names hir.params) _
      names.graph));
  body = spelled_names_held hir env names.graph func spelled;
  functions = names.functions;
  environment = names.environment;
}
