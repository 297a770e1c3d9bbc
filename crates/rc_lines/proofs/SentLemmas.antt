-- How much of a text was sent, call after call.
use Rattle.std.proofs.Common.{◌≡◌, ◌∙◌, ◌<◌, ◌≤◌, ℕ, ◌+◌, ◌-◌, List, ◌∷◌, [], ◌++◌, Option, length, get_or, take, drop}
use Rattle.std.proofs.Common.{replicate, refl, sym, ap, subst, append_assoc, take-append-drop}
use Rattle.std.proofs.KnownBytes.{Appends-trans}
use Rattle.std.proofs.lemmas.List.{drop-drop, drop_more, take_rest}
use Rattle.std.proofs.Math.Seq.{take-append_seam}
use Rattle.std.specs.Io.KnownBytes.{Appends}
use Rattle.rc_lines.specs.inside.Pieces.{piece_text, text_of}
use Rattle.rc_lines.specs.Sink.{HasAppendedPrefix}
use Rattle.rc_lines.specs.inside.Sent.{HasSent, HasSentSome}
use Rattle.rc_lines.specs.declared.page.Piece.{Piece}
use Rattle.rc_lines.proofs.BlankLemmas.{spaces_more}

module _ (old new : Option (List ℕ)) (text : List ℕ) where
  -- a prefix was sent
  pub sent_prefix : HasAppendedPrefix old new text → HasSentSome old new text
  sent_prefix (count, appended) =
      (drop count text, record { sent = take count text; appended = appended; whole = take-append-drop count text })

  pub prefix_sent : HasSentSome old new text → HasAppendedPrefix old new text
  prefix_sent (left, it) =
      let same : it.sent ≡ take (length it.sent) text =
      sym (take-append_seam it.sent left) ∙ ap (take (length it.sent)) it.whole in
      (length it.sent, subst (Appends old new) same it.appended)

  -- what comes after the text is left too
  pub sent_extended : (left more : List ℕ) → HasSent old new text left → HasSent old new (text ++ more) (left ++ more)
  sent_extended left more it = record {
    sent = it.sent;
    appended = it.appended;
    whole = sym (append_assoc it.sent left more) ∙ ap (λ xs. xs ++ more) it.whole;
  }

module _ (old mid new : Option (List ℕ)) (text front : List ℕ) (before : HasSent old mid text front) where
  -- what was left was sent, but for its own end
  pub sent_then : (left : List ℕ) → HasSent mid new front left → HasSent old new text left
  sent_then left it = record {
    sent = before.sent ++ it.sent;
    appended = Appends-trans old mid new before.sent it.sent before.appended it.appended;
    whole = append_assoc before.sent it.sent left ∙ ap (λ xs. before.sent ++ xs) it.whole ∙ before.whole;
  }

  pub sent_some_then : HasSentSome mid new front → HasSentSome old new text
  sent_some_then (left, it) = (left, sent_then left it)

module _ (old mid new : Option (List ℕ)) (text front more : List ℕ) (before : HasSent old mid text (front ++ more)) where
  -- the front of what was left was sent, but for its own end
  pub sent_more : (left : List ℕ) → HasSent mid new front left → HasSent old new text (left ++ more)
  sent_more left it =
      sent_then old mid new text (front ++ more) before (left ++ more) (sent_extended mid new front left more it)

  pub sent_some_more : HasSentSome mid new front → HasSentSome old new text
  sent_some_more (left, it) = (left ++ more, sent_more left it)

-- the text of a page, of which nothing waits yet
pub page_text : (wait : List ℕ) (pieces above : List Piece) (last : Piece) (text : List ℕ) → wait ≡ [] → pieces ≡ above
    → text_of above ++ piece_text last ≡ text → wait ++ (text_of pieces ++ piece_text last) ≡ text
page_text wait pieces above last text none same is =
    ap (λ xs. xs ++ (text_of pieces ++ piece_text last)) none ∙ ap (λ xs. text_of xs ++ piece_text last) same ∙ is

-- of a text in two parts, some of the first was sent
pub sent_first_some : (old new : Option (List ℕ)) (wait first second text : List ℕ) → wait ++ (first ++ second) ≡ text
    → HasSentSome old new (wait ++ first) → HasSentSome old new text
sent_first_some old new wait first second text is (left, it) = (
  left ++ second,
  subst (λ xs. HasSent old new xs (left ++ second)) (append_assoc wait first second ∙ is)
      (sent_extended old new (wait ++ first) left second it),
)

module _ (old mid new : Option (List ℕ)) (wait first second text mid_wait : List ℕ)
    (is : wait ++ (first ++ second) ≡ text) (before : HasSent old mid (wait ++ first) mid_wait) where
  both : HasSent old mid text (mid_wait ++ second)
  both =
      subst (λ xs. HasSent old mid xs (mid_wait ++ second)) (append_assoc wait first second ∙ is)
      (sent_extended old mid (wait ++ first) mid_wait second before)

  -- the first part was sent, but for what waits of it, and then the second
  pub sent_both : (left : List ℕ) → HasSent mid new (mid_wait ++ second) left → HasSent old new text left
  sent_both = sent_then old mid new text (mid_wait ++ second) both

  pub sent_both_some : HasSentSome mid new (mid_wait ++ second) → HasSentSome old new text
  sent_both_some = sent_some_then old mid new text (mid_wait ++ second) both

module _ (old new : Option (List ℕ)) (text left : List ℕ) where
  -- the front of what is left of a piece waits too
  pub sent_waits : (piece wait : List ℕ) (at count : ℕ)
      → wait ≡ left ++ take count (take (length piece - at) (drop at piece))
      → HasSent old new text (left ++ drop at piece) → HasSent old new text (wait ++ drop (at + count) piece)
  sent_waits piece wait at count longer = subst (HasSent old new text) same
    where
      rest : List ℕ
      rest = drop at piece

      filled : wait ≡ left ++ take count rest
      filled = rw take_rest at longer

      same : left ++ rest ≡ wait ++ drop (at + count) piece
      same = ap (λ xs. left ++ xs) (sym (take-append-drop count rest))
          ∙ sym (append_assoc left (take count rest) (drop count rest))
          ∙ ap (λ xs. xs ++ drop count rest) (sym filled)
          ∙ ap (λ xs. wait ++ xs) (drop-drop count at piece)

  -- some of the spaces that are left wait too
  pub sent_spaces : (piece : List ℕ) (some all : ℕ) → piece ≡ replicate some 32 → some ≤ all
      → HasSent old new text (left ++ replicate all 32)
      → HasSent old new text ((left ++ piece) ++ replicate (all - some) 32)
  sent_spaces piece some all are few =
      subst (HasSent old new text) (sym (spaces_more left piece (left ++ piece) some all refl are few))

  -- the next piece waits too
  pub sent_next : (pieces : List Piece) (place : ℕ) (piece : Piece) → place < length pieces
      → piece ≡ get_or pieces place piece → HasSent old new text (left ++ text_of (drop place pieces))
      → HasSent old new text ((left ++ piece_text piece) ++ text_of (drop (place + 1) pieces))
  sent_next pieces place piece below at = subst (HasSent old new text) same
    where
      rest : List Piece
      rest = drop (place + 1) pieces

      next : drop place pieces ≡ piece ∷ rest
      next = drop_more pieces place piece below ∙ ap (λ x. x ∷ rest) (sym at)

      same : left ++ text_of (drop place pieces) ≡ (left ++ piece_text piece) ++ text_of rest
      same = ap (λ xs. left ++ text_of xs) next ∙ sym (append_assoc left (piece_text piece) (text_of rest))
