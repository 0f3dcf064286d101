-- A load of one library's file into a journal of another name.
use Rattle.std.proofs.Common.{◌≡◌, ◌≢◌, ℕ, List, [], ◌∷◌, sym, subst, arith}
use Rattle.std.specs.Prelude.{IsTrue, None}
use Rattle.std.specs.Borrow.{Bor}
use Rattle.std.proofs.lemmas.List.Elements.{All-cons, All-nil}
use Rattle.marc_types.specs.Valid.{is_code}
use Rattle.command_words.specs.declared.asked.LoadRequest.{LoadRequest}
use Rattle.command_words.specs.declared.library.Library.{Library}
use Rattle.loading_commands.specs.Inputs.{AreLoadable, IsProper}

-- it can be carried out
pub proper : (journal : Bor (List ℕ)) (libraries : List Library) (library : Library) → libraries ≡ library ∷ [] → IsTrue (is_code library.code)
    → library.file ≢ journal.now → journal.now ≢ [] → IsProper (record { journal = journal; libraries = libraries; outputs = None })
proper journal libraries library one code apart named = record {
  loadable = subst (AreLoadable journal.now) (sym one) (record {
    some = omega arith;
    few = omega arith;
    proper = All-cons (λ (l : Library). IsTrue (is_code l.code)) library [] code (All-nil (λ (l : Library). IsTrue (is_code l.code)));
    apart = All-cons (λ (l : Library). l.file ≢ journal.now) library [] apart (All-nil (λ (l : Library). l.file ≢ journal.now));
  });
  names = (named, tt, tt);
}
