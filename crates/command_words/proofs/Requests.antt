-- What words ask for, from what the words behind their verb do.
use Rattle.std.proofs.Common.{◌≡◌, ℕ, Bool, List, ◌∷◌, Result, Ok, Err, IfOk, IfErr, MatchResult, sym, ap, subst, ◌∙◌}
use Rattle.std.specs.Prelude.{map}
use Rattle.command_words.specs.Command.{asked_of, is_large, behind_large, command_of, libraries_of, words_of_files, split_at_equals}
use Rattle.command_words.specs.Asked.{AsksFor, IsFor, IsAskedBy, IsUnasked}
use Rattle.command_words.specs.declared.asked.Request.{Request}
use Rattle.command_words.specs.declared.asked.Unasked.{Unasked}

-- the words without `large` are these
module _ (words : List (List ℕ)) (verb : List ℕ) (rest : List (List ℕ)) (behind : behind_large words ≡ verb ∷ rest) where
  is_asked : command_of words ≡ asked_of (is_large words) (verb ∷ rest)
  unfolding command_of
  is_asked = ap (asked_of (is_large words)) behind

  asks_for : (request : Request) → IsFor rest (command_of words) request → AsksFor words request
  unfolding libraries_of
  asks_for request is = record {
    command = is.command;
    libraries = is.libraries verb ∙ ap (λ o. map split_at_equals (words_of_files (verb ∷ rest) o)) (sym is.command)
        ∙ ap (λ these. map split_at_equals (words_of_files these (command_of words))) (sym behind);
  }

  asked_by : (answer : Result Request Unasked) → IsAskedBy answer rest (command_of words) → IfOk answer (AsksFor words)
  asked_by (Ok request) is = asks_for request is
  asked_by (Err why) is = tt

  unasked_by : (answer : Result Request Unasked) → IsAskedBy answer rest (command_of words) → IfErr answer (λ why. IsUnasked why (command_of words))
  unasked_by (Ok request) is = tt
  unasked_by (Err why) is = is

  of_words : (answer : Result Request Unasked) → IsAskedBy answer rest (asked_of (is_large words) (verb ∷ rest)) → IsAskedBy answer rest (command_of words)
  of_words answer is = subst (IsAskedBy answer rest) (sym is_asked) is

  -- what the words behind the verb ask for is what the words do
  pub asks : (answer : Result Request Unasked) → IsAskedBy answer rest (asked_of (is_large words) (verb ∷ rest)) → IfOk answer (AsksFor words)
  asks answer is = asked_by answer (of_words answer is)

  -- or there is no such command, or no memory for its libraries
  pub unasks : (answer : Result Request Unasked) → IsAskedBy answer rest (asked_of (is_large words) (verb ∷ rest))
      → IfErr answer (λ why. IsUnasked why (command_of words))
  unasks answer is = unasked_by answer (of_words answer is)
