use Rattle.std.proofs.Common.{◌≡◌, ◌∙◌, ℕ, List, Option, Some, None, IfSome, sym, refl}
use Rattle.clap.specs.Words.{found_of, one_text, rows_of}
use Rattle.clap.proofs.WalkLemmas.{one_text-rows}
use Rattle.g1_options.specs.CommandLine.{IsRead}
use Rattle.g1_options.proofs.command_line.number.Goals as goal

pub returns : goal.returns
returns c = read c.get_one.result refl (one_text (found_of c.args.matches.now) c.args.name.now) refl
  where
    read : (r : Option ℕ) → c.get_one.result ≡ r → (o : Option (List ℕ)) → one_text (found_of c.args.matches.now) c.args.name.now ≡ o
        → IfSome r (IsRead (rows_of (found_of c.args.matches.now)) c.args.name.now)
    read None is o found = tt
    read (Some n) is None found =
        let none : Some n ≡ None = sym is ∙ c.get_one.ensures.none found in
        cc
    read (Some n) is (Some text) found =
        let reads = rw is at c.get_one.ensures.value text found in
        (text, sym (one_text-rows (found_of c.args.matches.now) c.args.name.now) ∙ found, sym reads.0.1)
