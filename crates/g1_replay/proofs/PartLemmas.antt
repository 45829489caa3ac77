-- A line that goes on in the bytes that a reader shows.
use Rattle.std.specs.Prelude.{◌≡◌, ◌≢◌, ◌+◌, ◌<◌, ◌≤◌, ◌∷◌, ◌++◌}
use Rattle.g1_replay.specs.{◌∙◌, inl, inr, ℕ, List, [], length, take, get_or, sym, ap, subst, arith, append_assoc, append-nil, add-one, length-take-le, Option, Some, None, zero, suc, true, Ok, Err, Consumes-nil, Consumes-trans, eq-eqb, eqb-true, cases_Bool, cond-true, cond-false, false≢true, YieldsFirst, unwrap_or, is_byte, places_from, Consumes, IsPart, Part, More, Nothing, Fault, EndsAtFeed, GoesIntoLine, HasPart, IsSettled, ReadsByte, ReadsPart, ReadsLine}
use Rattle.std.proofs.Common.{length-append}
use Rattle.std.proofs.Math.Seq.{take-suc}
use Rattle.g1_trace.specs.declared.fault.TraceFault.TheVariants as fault
use Rattle.g1_trace.proofs.PlainLemmas.{part_joined}
use Rattle.g1_replay.specs.declared.lines.line.Byte.TheVariants.{Some as OneByte}
use Rattle.g1_replay.specs.declared.lines.line.Part.TheVariants.{Whole, TooLong}

-- the first of the places that a search for a line feed lists from one place on, with none before it
pub feed_found : (bytes : List ℕ) (i n : ℕ) (found : Option ℕ) (rest : List ℕ) → i + n ≡ length bytes → IsPart (take i bytes) → YieldsFirst (λ l. l) (places_from (is_byte 10) bytes i n) found rest
    → EndsAtFeed bytes (unwrap_or found (length bytes)) × (unwrap_or found (length bytes) ≤ length bytes)
unfolding places_from
feed_found bytes i zero None rest e p h = let at : i ≡ length bytes = omega arith in ((subst (λ k. IsPart (take k bytes)) at p, λ below. absurd (omega arith)), omega arith)
feed_found bytes i zero (Some k) rest e p h = cc
feed_found bytes i (suc n) found rest e p h = elim (cases_Bool (is_byte 10 (get_or bytes i 0))) [
  | inl feed ↦ here found (subst (λ l. YieldsFirst (λ m. m) l found rest) (cond-true _ _ _ feed) h) (eqb-true _ _ feed)
  | inr other ↦
      let ne : get_or bytes i 0 ≢ 10 = λ is. false≢true (sym other ∙ eq-eqb _ _ is) in
      let longer : IsPart (take (i + 1) bytes) = rw (add-one, take-suc bytes i 0 (omega arith)) (part_joined (take i bytes) (get_or bytes i 0 ∷ []) p (ne, tt)) in
      feed_found bytes (i + 1) n found rest (omega arith) longer (subst (λ l. YieldsFirst (λ m. m) l found rest) (cond-false _ _ _ other) h)
]
  where
    here : (found : Option ℕ) → YieldsFirst (λ l. l) (i ∷ places_from (is_byte 10) bytes (i + 1) n) found rest → get_or bytes i 0 ≡ 10 → EndsAtFeed bytes (unwrap_or found (length bytes)) × (unwrap_or found (length bytes) ≤ length bytes)
    here None h at = let none = h.0 in cc
    here (Some k) h at =
        let same : i ≡ k = cc in
        subst (λ j. EndsAtFeed bytes j × (j ≤ length bytes)) same ((p, λ below. at), omega arith)

-- the length of a line with n bytes more
grown : (begun line shown : List ℕ) (n : ℕ) → n ≤ length shown → line ≡ begun ++ take n shown → length line ≡ length begun + n
grown begun line shown n h e = ap length e ∙ length-append begun (take n shown) ∙ ap (λ k. length begun + k) (length-take-le n shown h)

-- what was read before a part, and bytes that end with it
behind : (a b c : Option (List ℕ)) (begun line bytes more : List ℕ) → line ≡ begun ++ bytes → Consumes a b begun → Consumes b c (bytes ++ more) → Consumes a c (line ++ more)
behind a b c begun line bytes more e p q = subst (Consumes a c) (sym (append_assoc begun bytes more) ∙ ap (λ l. l ++ more) (sym e)) (Consumes-trans a b c begun (bytes ++ more) p q)

-- the first part of a line, and one behind others
pub part_first : (a c : Option (List ℕ)) (part : Part) (line : List ℕ) → ReadsPart a c part [] line → HasPart a c part line
part_first a c part line r = record { before = []; left = a; read = Consumes-nil a; one = tt; last = r }

-- what the last part of a line settles
pub settled_whole : (a c : Option (List ℕ)) (line : List ℕ) → HasPart a c Whole line → IsSettled a c (Ok (Some true)) line
settled_whole a c line p =
    let r = p.last in
    (behind a p.left c p.before line r.0 (10 ∷ []) r.1 p.read r.2, subst IsPart (sym r.1) (part_joined p.before r.0 p.one r.3), r.4)

pub settled_long : (a c : Option (List ℕ)) (line : List ℕ) → HasPart a c TooLong line → IsSettled a c (Err (Fault fault.TooLong)) line
settled_long a c line p =
    let r = p.last in
    (r.1, behind a p.left c p.before line r.0 (r.1 ∷ []) r.2 p.read r.3, r.4, subst IsPart (sym r.2) (part_joined p.before r.0 p.one r.5), r.6)

pub settled_more : (a c : Option (List ℕ)) (line : List ℕ) → HasPart a c More line → IsSettled a c (Ok None) line
settled_more a c line p =
    let r = p.last in
    (subst (Consumes a c) (sym r.1) (Consumes-trans a p.left c p.before r.0 p.read r.2), subst IsPart (sym r.1) (part_joined p.before r.0 p.one r.3), r.4)

-- a line that the reader showed as a whole
pub line_shown : (old new : Option (List ℕ)) (shown : List ℕ) (n lost : ℕ) → GoesIntoLine shown 64 Whole n lost → n ≤ length shown → Consumes old new (take lost shown) → ReadsLine old new (Ok true) (take n shown)
line_shown old new shown n lost p within moved = let long = length-take-le n shown within in (subst (Consumes old new) p.2 moved, p.0, omega arith)

pub nothing_shown : (a c : Option (List ℕ)) (line : List ℕ) → HasPart a c Nothing line → Consumes a c line × IsPart line
nothing_shown a c line p =
    (subst (Consumes a c) (append-nil p.before ∙ sym p.last.0) (Consumes-trans a p.left c p.before [] p.read p.last.1), subst IsPart (sym p.last.0) p.one)

pub byte_more : (a b c : Option (List ℕ)) (line : List ℕ) (byte : ℕ) → Consumes a b line → IsPart line → length line < 64 → byte ≢ 10 → ReadsByte b c (OneByte byte) → IsSettled a c (Ok None) (line ++ byte ∷ [])
byte_more a b c line byte p one room ne q = (Consumes-trans a b c line (byte ∷ []) p q, part_joined line (byte ∷ []) one (ne, tt), simp length-append (omega arith))
