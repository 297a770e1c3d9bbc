-- Readings of a list from its last item on, with one item taken off the end at a time.
use Rattle.std.proofs.Common.{◌≡◌, ◌∙◌, List, [], ◌∷◌, ◌++◌, Option, Some, None, Result, Err, refl, ap, sym, reverse}
use Rattle.std.specs.Prelude.{option_map}
use Rattle.std.proofs.lemmas.List.{append_assoc, append-nil, reverse-append}
use Rattle.rc_doc.specs.Reading.{◌>>=◌, IsRead}
use Rattle.rc_doc.specs.declared.refusal.Refusal.{Refusal}
use Rattle.rc_doc.specs.declared.refusal.Refusal.TheVariants.{Memory, NotDoc}
use Rattle.rc_flat.specs.inside.Assembly.{Found, from_last, Taking, through}

-- with these items at the end
abbrev pub before : {X : Type 0} → List X → Option (List X × Found) → Option (List X × Found)
before later = option_map (λ x. (x.0 ++ later, x.1))

before_none : {X : Type 0} (o : Option (List X × Found)) → before [] o ≡ o
before_none None = refl
before_none (Some x) = ap (λ z. Some (z, x.1)) (append-nil x.0)

before_more : {X : Type 0} (x : X) (later : List X) (o : Option (List X × Found))
    → before later (before (x ∷ []) o) ≡ before (x ∷ later) o
before_more x later None = refl
before_more x later (Some y) = ap (λ z. Some (z, y.1)) (append_assoc y.0 (x ∷ []) later)

module _ {A X : Type 0} (read : A → Taking X) where
  -- the item before others
  abbrev first_then : A → List X × Found → Option (List X × Found)
  first_then a others = read a others.1 >>= (λ first. Some (first.0 ∷ others.0, first.1))

  -- the items before the last
  abbrev last_then : List A → X × Found → Option (List X × Found)
  last_then xs x = before (x.0 ∷ []) (from_last read xs x.1)

  in_first : (o : Option (X × Found)) (x : X) (others : List X)
      → (o >>= (λ first. Some (first.0 ∷ (others ++ x ∷ []), first.1)))
      ≡ before (x ∷ []) (o >>= (λ first. Some (first.0 ∷ others, first.1)))
  in_first None x others = refl
  in_first (Some first) x others = refl

  in_others : (o : Option (List X × Found)) (x : X) (b : A)
      → (before (x ∷ []) o >>= first_then b) ≡ before (x ∷ []) (o >>= first_then b)
  in_others None x b = refl
  in_others (Some others) x b = in_first (read b others.1) x others.0

  in_last : (o : Option (X × Found)) (b : A) (xs : List A)
      → (o >>= last_then xs >>= first_then b) ≡ (o >>= last_then (b ∷ xs))
  in_last None b xs = refl
  in_last (Some x) b xs = in_others (from_last read xs x.1) x.0 b

  -- the last item is read first
  last_first : (xs : List A) (a : A) (found : Found)
      → from_last read (xs ++ a ∷ []) found ≡ (read a found >>= last_then xs)
  last_first [] a found = refl
  last_first (b ∷ xs) a found =
      ap (λ o. o >>= first_then b) (last_first xs a found) ∙ in_last (read a found) b xs

  pub read_begins : (xs : List A) (found : Found) → before [] (from_last read xs found) ≡ from_last read xs found
  read_begins xs found = before_none (from_last read xs found)

  pub read_goes_on : (all xs : List A) (a : A) (later : List X) (x : X) (found left : Found) → all ≡ xs ++ a ∷ []
      → read a found ≡ Some (x, left)
      → before later (from_last read all found) ≡ before (x ∷ later) (from_last read xs left)
  read_goes_on all xs a later x found left is h =
      ap (λ z. before later (from_last read z found)) is
      ∙ (ap (before later) (last_first xs a found ∙ ap (λ o. o >>= last_then xs) h)
      ∙ before_more x later (from_last read xs left))

  pub read_refused : (all xs : List A) (a : A) (later : List X) (found : Found) → all ≡ xs ++ a ∷ []
      → read a found ≡ None → before later (from_last read all found) ≡ None
  read_refused all xs a later found is h =
      ap (λ z. before later (from_last read z found)) is
      ∙ ap (before later) (last_first xs a found ∙ ap (λ o. o >>= last_then xs) h)

  -- a call reads the last item, and puts it to the end of a list
  pub read_put : (all xs : List A) (a : A) (later new : List X) (x : X) (found left : Found) → all ≡ xs ++ a ∷ []
      → read a found ≡ Some (x, left) → new ≡ later ++ x ∷ []
      → before (reverse new) (from_last read xs left) ≡ before (reverse later) (from_last read all found)
  read_put all xs a later new x found left is h put =
      rw (put, reverse-append later (x ∷ []))
      (sym (read_goes_on all xs a (reverse later) x found left is h))

  -- a call refuses the last item
  pub read_fails : (all xs : List A) (a : A) (later : List X) (refusal : Refusal) (found : Found)
      (whole : Option (List X × Found)) → all ≡ xs ++ a ∷ [] → IsRead {X = X × Found} (Err refusal) (read a found)
      → before later (from_last read all found) ≡ whole → IsRead {X = List X × Found} (Err refusal) whole
  read_fails all xs a later NotDoc found whole is h so_far = sym so_far ∙ read_refused all xs a later found is h
  read_fails all xs a later Memory found whole is h so_far = tt

module _ {A : Type 0} (step : A → Found → Option Found) where
  some_again : (o : Option Found) → o ≡ (o >>= (λ found. Some found))
  some_again None = refl
  some_again (Some found) = refl

  both_steps : (o : Option Found) (b : A) (xs : List A)
      → (o >>= through step xs >>= step b) ≡ (o >>= through step (b ∷ xs))
  both_steps None b xs = refl
  both_steps (Some found) b xs = refl

  last_step : (xs : List A) (a : A) (found : Found)
      → through step (xs ++ a ∷ []) found ≡ (step a found >>= through step xs)
  last_step [] a found = some_again (step a found)
  last_step (b ∷ xs) a found = ap (λ o. o >>= step b) (last_step xs a found) ∙ both_steps (step a found) b xs

  pub steps_go_on : (all xs : List A) (a : A) (found left : Found) → all ≡ xs ++ a ∷ [] → step a found ≡ Some left
      → through step all found ≡ through step xs left
  steps_go_on all xs a found left is h =
      ap (λ z. through step z found) is ∙ (last_step xs a found ∙ ap (λ o. o >>= through step xs) h)

  pub steps_refused : (all xs : List A) (a : A) (found : Found) → all ≡ xs ++ a ∷ [] → step a found ≡ None
      → through step all found ≡ None
  steps_refused all xs a found is h =
      ap (λ z. through step z found) is ∙ (last_step xs a found ∙ ap (λ o. o >>= through step xs) h)

  -- a call refuses the last entry
  pub step_fails : (all xs : List A) (a : A) (refusal : Refusal) (found : Found) (whole : Option Found)
      → all ≡ xs ++ a ∷ [] → IsRead {X = Found} (Err refusal) (step a found) → through step all found ≡ whole
      → IsRead {X = Found} (Err refusal) whole
  step_fails all xs a NotDoc found whole is h so_far = sym so_far ∙ steps_refused all xs a found is h
  step_fails all xs a Memory found whole is h so_far = tt
