-- Pieces behind pieces, and plays that follow each other.
use Rattle.std.specs.Prelude.{◌≡◌, ◌∷◌, ◌++◌}
use Rattle.g1_replay.specs.Prelude.{◌∙◌, ℕ, List, [], refl, sym, ap, subst}
use Rattle.g1_replay.specs.Prelude.{append_assoc, vec_len, append-nil, flat_map-append, Settings}
use Rattle.g1_replay.specs.Prelude.{Entry, History, BookTerms, layout_in, Grows, grows_none}
use Rattle.g1_replay.specs.Prelude.{grows_then, Command}
use Rattle.g1_replay.specs.declared.runs.machinery.Machinery.{Machinery}
use Rattle.g1_replay.specs.Drains.{Draining}
use Rattle.g1_replay.specs.Playing.{HasPlayed, IsBookFull, IsReady, MayStop, Plays}
use Rattle.g1_replay.specs.Stepped.{AreMade, StepsThrough}
use Rattle.g1_replay.specs.Pieces.{Piece, IsPieceOf, IsSetBy, AreSetBy, Walks, line_of, lines_of}
use Rattle.g1_replay.specs.Pieces.{entries_of}

walks_then : (cs ds : List Command) (ps qs : List Piece) → Walks cs ps → Walks ds qs
    → Walks (cs ++ ds) (ps ++ qs)
walks_then [] ds [] qs w v = v
walks_then (c ∷ cs) ds (p ∷ ps) qs w v = (w.0, walks_then cs ds ps qs w.1 v)
walks_then cs ds ps qs w v = absurd w

set_then : (s : Settings) (cs ds : List Command) (ps qs : List Piece) → Walks cs ps
    → AreSetBy s cs ps → AreSetBy s ds qs → AreSetBy s (cs ++ ds) (ps ++ qs)
set_then s [] ds [] qs w a b = b
set_then s (c ∷ cs) ds (p ∷ ps) qs w a b = (a.0, set_then s cs ds ps qs w.1 a.1 b)
set_then s cs ds ps qs w a b = absurd w

lines_then : (cs ds : List Command) (ps qs : List Piece) → Walks cs ps
    → lines_of (cs ++ ds) (ps ++ qs) ≡ lines_of cs ps ++ lines_of ds qs
lines_then [] ds [] qs w = refl
lines_then (c ∷ cs) ds (p ∷ ps) qs w =
    ap (λ l. line_of c p ++ l) (lines_then cs ds ps qs w.1)
    ∙ sym (append_assoc (line_of c p) (lines_of cs ps) (lines_of ds qs))
lines_then cs ds ps qs w = absurd w

pub played_none : (h : History) → HasPlayed h [] [] h
played_none h = record { pieces = []; walked = tt; set = tt; grows = grows_none h; said = refl }

pub played_then : (a b c : History) (cs ds : List Command) (xs ys : List ℕ) → HasPlayed a cs xs b
    → HasPlayed b ds ys c → HasPlayed a (cs ++ ds) (xs ++ ys) c
played_then a b c cs ds xs ys p q = record {
  pieces = p.pieces ++ q.pieces;
  walked = walks_then cs ds p.pieces q.pieces p.walked q.walked;
  set = set_then a.machine.settings cs ds p.pieces q.pieces p.walked p.set
      (subst (λ (t : BookTerms). AreSetBy t.settings ds q.pieces) p.grows.terms q.set);
  grows = subst (λ (es : List Entry). Grows a es c)
      (sym (flat_map-append (λ (x : Piece). x.entries) p.pieces q.pieces))
      (grows_then a b c (entries_of p.pieces) (entries_of q.pieces) p.grows q.grows);
  said = ap (λ l. l ++ ys) p.said ∙ ap (λ l. lines_of cs p.pieces ++ l) q.said
      ∙ sym (lines_then cs ds p.pieces q.pieces p.walked);
}

-- one command
pub played_one : (a b : History) (c : Command) (p : Piece) → IsPieceOf c p.entries
    → IsSetBy a.machine.settings c p.entries → Grows a p.entries b
    → HasPlayed a (c ∷ []) (line_of c p) b
played_one a b c p w s g = record {
  pieces = p ∷ [];
  walked = (w, tt);
  set = (s, tt);
  grows = subst (λ (es : List Entry). Grows a es b) (sym (append-nil p.entries)) g;
  said = sym (append-nil (line_of c p));
}

-- a book, whose first caller drains
abbrev pub book_draining : Draining History
book_draining = record {
  layout = layout_in;
  did = HasPlayed;
  full = IsBookFull;
  none = played_none;
  then = played_then;
  stays = λ a b cs xs p. ap (λ (t : BookTerms). t.layout) p.grows.terms;
}

-- no command
pub stepped_none : (m : Machinery) → StepsThrough m [] [] [] m
stepped_none m = record { reached = m; made = (refl, refl); refused = refl }

made_then : (a b c : Machinery) (cs ds : List Command) (xs ys : List ℕ) → AreMade a cs xs b
    → AreMade b ds ys c → AreMade a (cs ++ ds) (xs ++ ys) c
made_then a b c [] ds xs ys p q =
    subst (λ (m : Machinery). AreMade m ds (xs ++ ys) c) p.0
    (subst (λ (l : List ℕ). AreMade b ds l c) (sym (ap (λ l. l ++ ys) p.1)) q)
made_then a b c (k ∷ cs) ds xs ys p q = (
  p.0,
  p.1,
  p.2 ++ ys,
  p.3,
  made_then p.0 b c cs ds p.2 ys p.4 q,
  ap (λ l. l ++ ys) p.5 ∙ append_assoc p.1 p.2 ys,
)

-- commands, none of which was refused, and then more
pub stepped_then : (a b c : Machinery) (cs ds es : List Command) (xs ys : List ℕ)
    → StepsThrough a cs [] xs b → StepsThrough b ds es ys c
    → StepsThrough a (cs ++ ds) es (xs ++ ys) c
stepped_then a b c cs ds es xs ys p q = record {
  reached = q.reached;
  made = made_then a b q.reached cs ds xs ys
      (subst (λ (m : Machinery). AreMade a cs xs m) (sym p.refused) p.made) q.made;
  refused = q.refused;
}

-- a machinery, on which each command is a step
abbrev pub stepping : Plays Machinery
stepping = record {
  takes = λ m l d. IsReady m.book (vec_len m.mutators) m.line l d;
  deeds = record {
    did = StepsThrough;
    full = λ m. IsBookFull m.book;
    none = stepped_none;
    then = stepped_then;
  };
  stops = MayStop;
  may_stop = λ stop may. may;
}
