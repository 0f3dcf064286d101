-- News that is kept of a history, as the history grows and as it is asked for.
use Rattle.std.proofs.Common.{◌≡◌, ◌∙◌, ℕ, ◌+◌, ◌-◌, ◌≤◌, List, [], ◌++◌, length, take, drop, Option, Some, None, refl, sym, ap, subst, arith, length-append}
use Rattle.std.specs.Prelude.{IfSome, IfOk, Result, Ok, Err}
use Rattle.std.specs.Option.{option_map, option_map_or}
use Rattle.std.proofs.lemmas.List.{append-nil, drop-drop, drop-append-le, drop_all, take_all, take-append-le}
use mathlib.Core.List.{IsPrefix}
use Rattle.marc_types.specs.declared.entry.Entry.{Entry}
use Rattle.marc_types.specs.declared.key.Place.{Place}
use Rattle.marc_types.specs.declared.copying.NoMemory.{NoMemory}
use Rattle.catalogue_rules.specs.Settle.{state_of}
use Rattle.catalogue_core.specs.Catalogues.{Catalogued, all_entries}
use Rattle.entry_history.specs.Events.{entries_of}
use Rattle.durable_catalogue.specs.Durables.{events}
use Rattle.durable_catalogue.specs.News.{KeptNews, and_entries, kept_or_begun, start_of, IsNewsOf}
use Rattle.durable_catalogue.specs.Asked.{IsToldOf, IsToldSince, IsAnswered}
use Rattle.durable_catalogue.specs.declared.question.Ask.{Ask}
use Rattle.durable_catalogue.specs.declared.question.Ask.TheVariants as ask
use Rattle.durable_catalogue.specs.declared.question.Told.{Told}
use Rattle.durable_catalogue.specs.declared.question.Told.TheVariants.{Since}
use Rattle.durable_catalogue.proofs.Replies.{entries_are}

-- news that begins behind a history, where none was kept
pub begins_now : (history : List Entry) (start : ℕ) (news : Option KeptNews) → start ≡ length history → IfSome news (IsNewsOf history)
    → IsNewsOf history (kept_or_begun news start)
begins_now history start None is kept = record { begins = omega (arith, is); entries = sym (drop_all start history (omega (arith, is))) }
begins_now history start (Some news) is kept = kept

news_more : (history more : List Entry) (news : KeptNews) → IsNewsOf history news → IsNewsOf (history ++ more) (and_entries more news)
news_more history more news is = record {
  begins = omega (arith, is.begins, length-append history more);
  entries = ap (λ es. es ++ more) is.entries ∙ sym (drop-append-le news.start history more is.begins);
}

-- entries that are put behind both
pub still_news : (history more : List Entry) (old new : Option KeptNews) → IfSome old (IsNewsOf history) → new ≡ option_map (and_entries more) old
    → IfSome new (IsNewsOf (history ++ more))
still_news history more None new is grown = subst (λ n. IfSome n (IsNewsOf (history ++ more))) (sym grown) tt
still_news history more (Some news) new is grown = subst (λ n. IfSome n (IsNewsOf (history ++ more))) (sym grown) (news_more history more news is)

pub same_start : (more : List Entry) (old new : Option KeptNews) → new ≡ option_map (and_entries more) old → start_of new ≡ start_of old
same_start more None new grown = ap start_of grown
same_start more (Some news) new grown = ap start_of grown

-- what is asked for begins behind the first entry of the news
since_start : (history : List Entry) (start from most : ℕ) (entries part : List Entry) → entries ≡ drop start history → start ≤ from
    → part ≡ take most (drop (from - start) entries) → part ≡ take most (drop from history)
since_start history start from most entries part is le told =
    let there : start + (from - start) ≡ from = omega arith in
    told ∙ ap (λ es. take most (drop (from - start) es)) is ∙ ap (take most) (drop-drop (from - start) start history ∙ ap (λ n. drop n history) there)

pub told_part : (history : List Entry) (from most : ℕ) (news : KeptNews) (part : List Entry) → IsNewsOf history news → news.start ≤ from
    → part ≡ take most (drop (from - news.start) news.entries) → IsToldSince (Some news.start) history from most (Since part)
told_part history from most news part is le told = (le, since_start history news.start from most news.entries part is.entries le told)

-- a list cut to what it was
pub cut_back : {X : Type 0} (xs ys : List X) → IsPrefix xs ys → take (length xs) ys ≡ xs
cut_back xs ys begins =
    sym (ap (take (length xs)) begins.1) ∙ take-append-le (length xs) xs begins.0 (omega arith) ∙ take_all (length xs) xs (omega arith)

-- news that is cut by as many entries as were put behind it
pub cut_none : (before : Option KeptNews) (entries : List Entry) → None ≡ option_map (and_entries entries) before → None ≡ before
cut_none None entries is = refl
cut_none (Some news) entries is = cc

pub cut_some : (before : Option KeptNews) (entries all left : List Entry) (start count kept : ℕ)
    → Some (record { start = start; entries = all }) ≡ option_map (and_entries entries) before → length entries ≡ count → kept ≡ length all - count
    → left ≡ take kept all → Some (record { start = start; entries = left }) ≡ before
cut_some None entries all left start count kept is few kept_is cut = absurd cc
cut_some (Some news) entries all left start count kept is few kept_is cut =
    let starts : start ≡ news.start = ap (λ o. option_map_or (λ (n : KeptNews). n.start) o 0) is in
    let grown : all ≡ news.entries ++ entries = ap (λ o. option_map_or (λ (n : KeptNews). n.entries) o []) is in
    let first : kept ≡ length news.entries = omega (arith, kept_is, few, ap length grown, length-append news.entries entries) in
    let back : left ≡ news.entries = cut ∙ ap (take kept) grown ∙ ap (λ n. take n (news.entries ++ entries)) first ∙ cut_back news.entries (news.entries ++ entries) (entries, refl) in
    ap (λ s. Some (record { start = s; entries = left })) starts ∙ ap (λ es. Some (record { start = news.start; entries = es })) back

-- how a question is answered over the items of the lock
pub status_told : (start : Option ℕ) (core : Catalogued) (mark : Option (List Entry)) (question : Ask) (place : Place) (answer : Result Told NoMemory)
    → core.staged ≡ [] → question ≡ ask.Status place → IfOk answer (IsToldOf (state_of (all_entries core)) place) → IsAnswered start (events core.history mark) question answer
status_told start core mark question place answer unstaged is told =
    let all = ap (λ es. core.history ++ es) unstaged ∙ append-nil core.history ∙ sym (entries_are core.history mark) in
    subst (λ q. IsAnswered start (events core.history mark) q answer) (sym is) (subst (λ (es : List Entry). IfOk answer (IsToldOf (state_of es) place)) all told)

since_so : (news : Option KeptNews) (history entries : List Entry) (from most : ℕ) (answer : Result Told NoMemory) → IfSome news (IsNewsOf history) → history ≡ entries
    → IfOk answer (λ told. (history : List Entry) → IfSome news (IsNewsOf history) → IsToldSince (start_of news) history from most told)
    → IfOk answer (IsToldSince (start_of news) entries from most)
since_so news history entries from most (Ok told) is same so = subst (λ es. IsToldSince (start_of news) es from most told) same (so history is)
since_so news history entries from most (Err fault) is same so = tt

pub since_told : (news : Option KeptNews) (core : Catalogued) (mark : Option (List Entry)) (question : Ask) (from most : ℕ) (answer : Result Told NoMemory)
    → IfSome news (IsNewsOf core.history) → question ≡ ask.Since from most
    → IfOk answer (λ told. (history : List Entry) → IfSome news (IsNewsOf history) → IsToldSince (start_of news) history from most told)
    → IsAnswered (start_of news) (events core.history mark) question answer
since_told news core mark question from most answer is asked so =
    subst (λ q. IsAnswered (start_of news) (events core.history mark) q answer) (sym asked)
    (since_so news core.history (entries_of (events core.history mark)) from most answer is (sym (entries_are core.history mark)) so)
