-- The ends that a line is made with.
use Rattle.std.specs.Prelude.{◌≡◌, ◌+◌, ◌<◌, ◌∷◌, ◌++◌}
use Rattle.g1_log.specs.{ℕ, List, [], length, sym, ap, subst, arith, Forks, view, IsPassOf, PassView, Sender, IsLineState, maker, sender_made, new_sender, taker_made, new_taker, newcomer, keeper, put_by, IsNewSender, AreNewSenders}
use Rattle.g1_log.specs.declared.line.Line.{Line}
use Rattle.g1_log.proofs.Passing.{makes_sender, makes_taker, opens}

pub AreNewSenders-push : (line : Line) (k : ℕ) (ss : List Sender) (j : ℕ) (s : Sender) → j ≡ k + length ss → AreNewSenders line k ss → IsNewSender line j s → AreNewSenders line k (ss ++ s ∷ [])
AreNewSenders-push line k [] j s e h new = let d : j ≡ k = omega arith in (subst (λ n. IsNewSender line n s) d new, tt)
AreNewSenders-push line k (x ∷ xs) j s e h new =
    let d : j ≡ (k + 1) + length xs = omega arith in
    (h.0, AreNewSenders-push line (k + 1) xs j s d h.1 new)

pub is_new_sender : (line : Line) (k : ℕ) (s : Sender) → IsPassOf line.queue s.pass → view s.pass ≡ new_sender k → s.number ≡ k → IsNewSender line k s
is_new_sender line k s pass e number = record {
  of = pass.0;
  number = number;
  put = ap (λ (v : PassView). put_by v) e;
  right = ap (λ (v : PassView). v.rights) e;
}

pub forks_sender : (port r n : ℕ) (v : PassView) → v ≡ maker r n → 1 < r → Forks IsLineState port v (sender_made v) (new_sender v.made)
forks_sender port r n v e more = subst (λ u. Forks IsLineState port u (sender_made u) (new_sender u.made)) (sym e) (makes_sender port r n more)

pub forks_taker : (port r n : ℕ) (v : PassView) → v ≡ maker r n → 1 < r → Forks IsLineState port v (taker_made v) new_taker
forks_taker port r n v e more = subst (λ u. Forks IsLineState port u (taker_made u) new_taker) (sym e) (makes_taker port r n more)

pub forks_opens : (port : ℕ) (v : PassView) → port ≡ 0 → v ≡ newcomer → Forks IsLineState port v keeper newcomer
forks_opens port v z e = subst (λ n. Forks IsLineState n v keeper newcomer) (sym z) (subst (λ u. Forks IsLineState 0 u keeper newcomer) (sym e) opens)
