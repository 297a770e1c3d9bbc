-- The lines of a whole function: its header, its body, and the fates of its scopes.
use Rattle.std.specs.Prelude.{ℕ, List, codes, decimal, flat_map}
use Rattle.rc_hir.specs.Model.{ParamPattern}
use Rattle.rc_hir.specs.declared.place.ParamPattern.TheVariants.{Place, Spread}
use Rattle.rc_tree.specs.Model.{ReactiveFunction}
use Rattle.rc_tree.specs.declared.fate.Fate.{Fate}
use Rattle.rc_tree.specs.declared.fate.Fate.TheVariants.{Kept, NotEscaping, Unused, MergedInto, DissolvedInto}
use Rattle.rc_tree.specs.declared.fate.Fate.TheVariants.{AlwaysInvalidating}
use Rattle.rc_tree.specs.declared.fate.ScopeFate.{ScopeFate}
use Rattle.rc_lines.specs.LineText.{◌&◌, line, bool_text, quoted_text, json_text, span_text, place_text}
use Rattle.rc_lines.specs.Lines.{Lines, block_lines}

-- a function's two marks and its place in the source
abbrev pub marks_text : ReactiveFunction → List ℕ
marks_text func = codes " generator " & bool_text func.generator & codes " async " & bool_text func.is_async & span_text
    func.span

-- the first line of a function
abbrev pub name_text : ReactiveFunction → List ℕ
name_text func = codes "function " & json_text func.id & codes " hint " & json_text func.name_hint & marks_text func

-- a parameter; three dots come before one that takes the rest
abbrev pub param_text : ParamPattern → List ℕ
param_text (Place place) = codes "param " & place_text place
param_text (Spread spread) = codes "param ..." & place_text spread.place

-- one line for each parameter
abbrev pub param_lines : List ParamPattern → List ℕ
param_lines = flat_map (λ param. line 0 (param_text param))

-- one line for each directive
abbrev pub directive_lines : List (List ℕ) → List ℕ
directive_lines = flat_map (λ text. line 0 (codes "directive " & quoted_text text))

-- the lines ahead of the body
abbrev pub header_lines : ReactiveFunction → List ℕ
header_lines func = line 0 (name_text func) & param_lines func.params & directive_lines func.directives

-- the fate of a scope
abbrev pub fate_text : Fate → List ℕ
fate_text Kept = codes "kept"
fate_text NotEscaping = codes "not-escaping"
fate_text Unused = codes "unused"
fate_text (MergedInto scope) = codes "merged into " & decimal scope.0
fate_text (DissolvedInto scope) = codes "dissolved into " & decimal scope.0
fate_text AlwaysInvalidating = codes "always-invalidating"

-- a scope and its fate
abbrev pub scope_fate_text : ScopeFate → List ℕ
scope_fate_text scope = codes "scope " & decimal scope.scope.0 & codes " " & fate_text scope.fate

-- one line for each scope
abbrev pub fate_lines : List ScopeFate → Lines
fate_lines fates indent = flat_map (λ scope. line indent (scope_fate_text scope)) fates

-- the lines of a function and of the fates of its scopes
abbrev pub lines_of : ReactiveFunction → List ScopeFate → List ℕ
lines_of func fates =
    header_lines func & line 0 (codes "body") & block_lines func.body 2 & line 0 (codes "fates") & fate_lines fates 2
