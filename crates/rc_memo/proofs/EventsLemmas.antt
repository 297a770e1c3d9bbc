-- The facts, loads and scopes of some events and more.
use Rattle.std.proofs.Common.{◌≡◌, ◌∙◌, ◌++◌, List, [], ◌∷◌, ap, append-nil, append_assoc, sym}
use Rattle.std.specs.List.{flat_map}
use Rattle.std.proofs.lemmas.Grind.{flat_map-append}
use Rattle.rc_names.specs.Numbers.{DeclarationId}
use Rattle.rc_memo.proofs.LoadsLemmas.{resolve_is}
use Rattle.rc_memo.specs.Events.{Loaded, definitions_told, event_facts, facts_behind, facts_told, loads_in, params_facts}
use Rattle.rc_memo.specs.Events.{resolved_after}
use Rattle.rc_memo.specs.declared.event.MemoEvent.{MemoEvent}
use Rattle.rc_memo.specs.inside.RowNodes.{resolved}

facts_behind-append : (loads : List Loaded) (xs ys : List MemoEvent)
    → facts_behind loads (xs ++ ys) ≡ facts_behind loads xs ++ facts_behind (loads ++ flat_map loads_in xs) ys
facts_behind-append loads [] ys = ap (λ w. facts_behind w ys) (sym (append-nil loads))
facts_behind-append loads (x ∷ xs) ys =
    ap (λ w. event_facts (resolved_after loads) x ++ w) (facts_behind-append (loads ++ loads_in x) xs ys)
    ∙ sym (append_assoc (event_facts (resolved_after loads) x) (facts_behind (loads ++ loads_in x) xs)
    (facts_behind ((loads ++ loads_in x) ++ flat_map loads_in xs) ys))
    ∙ ap (λ w. facts_behind loads (x ∷ xs) ++ facts_behind w ys)
    (append_assoc loads (loads_in x) (flat_map loads_in xs))

-- one more event
pub facts_told-push : (params : List DeclarationId) (before : List MemoEvent) (event : MemoEvent)
    → facts_told params (before ++ event ∷ [])
    ≡ facts_told params before ++ event_facts (resolved_after (flat_map loads_in before)) event
facts_told-push params before event =
    ap (λ w. params_facts params ++ w) (facts_behind-append [] before (event ∷ [])
    ∙ ap (λ w. facts_behind [] before ++ w)
    (append-nil (event_facts (resolved_after (flat_map loads_in before)) event)))
    ∙ sym (append_assoc (params_facts params) (facts_behind [] before)
    (event_facts (resolved_after (flat_map loads_in before)) event))

pub flat-push : {X : Type 0} (f : MemoEvent → List X) (before : List MemoEvent) (event : MemoEvent)
    → flat_map f (before ++ event ∷ []) ≡ flat_map f before ++ f event
flat-push f before event =
    flat_map-append f before (event ∷ []) ∙ ap (λ w. flat_map f before ++ w) (append-nil (f event))

-- the definitions resolve as the last loads do
pub resolved_told : (definitions : List Loaded) (loads : List Loaded) → definitions ≡ definitions_told loads
    → resolved definitions ≡ resolved_after loads
resolved_told definitions loads is = ap resolved is ∙ (λ i name. resolve_is loads name i)
