-- A form that was read where commands have made the session: the symbols grew at the end and are a table still, and the form
-- by number is a value whose symbols are known.
use Rattle.std.proofs.Common.{◌≡◌, ℕ, ◌<◌, ◌≤◌, List, ◌++◌, length, true, false, Option, Some, None, refl, sym, ap, ◌∙◌, subst}
use Rattle.std.specs.Prelude.{unwrap_or}
use Rattle.std.proofs.lemmas.Bool.{le-leb}
use Rattle.std.proofs.lemmas.List.{append_assoc}
use Rattle.model_objects.specs.Object.{Object, Integer, Symbol, Text, Pair, weight, max_weight, has_narrow_integers, is_value}
use Rattle.model_objects.specs.Named.{Symbols, Knows}
use Rattle.model_objects.proofs.NamedLemmas.{weight-named, narrow-named}
use Rattle.model_symbols.specs.Symbols.{QualifiedName, number_of, symbol_at, form_of}
use Rattle.model_symbols.specs.Opening.{opening, quote_name, nil_name, common_lisp_text, acl2_text, common_lisp_symbols, acl2_symbols}
use Rattle.model_symbols.proofs.NameLemmas.{number-Some, number-None, number_within, symbol_at-is}
use Rattle.model_text.specs.Token.{Form}
use Rattle.model_text.specs.Backquote.{cons_name, append_name}
use Rattle.model_text.specs.Next.{Stands, next_at}
use Rattle.model_text.specs.Spelling.{AForm}
use Rattle.model_text_laws.specs.Laws.{packages_of, BeginsWith}
use Rattle.model_text_laws.proofs.Runs.{stands_spelled}
use Rattle.model_books.specs.Opening.{Session}
use Rattle.model_books.specs.Output.{numbered}
use Rattle.model_events.specs.Events.{Limits}
use Rattle.model_made.specs.Made.{HasRead, IsMade}
use Rattle.model_made_logic.proofs.LawLemmas.{made_sessions_known}
use Rattle.model_books_made.proofs.SpellingLemmas.{EachOne, IsFit, fit_narrow, fit_symbols, fit_form, AreBuiltIn, names_had, spelled_fits}
use Rattle.model_books_made.proofs.InternLemmas.{IsIn, in_longer, Added, all_added}
use Rattle.model_books_made.proofs.CurrentLemmas.{made_opened}

-- ---- known symbols and their numbers

numbered_within : (symbols : List QualifiedName) (s : QualifiedName) → IsIn symbols s → unwrap_or (number_of symbols s) 0 < length symbols
numbered_within symbols s h = go (number_of symbols s) refl
  where
    go : (o : Option ℕ) → number_of symbols s ≡ o → unwrap_or o 0 < length symbols
    go (Some n) e = number_within symbols s n e
    go None e = absurd (number-None symbols s h.0 e h.1)

named_again : (symbols : List QualifiedName) (s : QualifiedName) → IsIn symbols s → symbol_at symbols (unwrap_or (number_of symbols s) 0) ≡ s
named_again symbols s h = go (number_of symbols s) refl
  where
    go : (o : Option ℕ) → number_of symbols s ≡ o → symbol_at symbols (unwrap_or o 0) ≡ s
    go (Some n) e = symbol_at-is symbols n s (number-Some symbols s n e)
    go None e = absurd (number-None symbols s h.0 e h.1)

form_knows : (symbols : List QualifiedName) (f : Form) → Symbols (IsIn symbols) f → Knows (length symbols) (numbered symbols f)
form_knows symbols (Integer n) h = tt
form_knows symbols (Symbol s) h = numbered_within symbols s h
form_knows symbols (Text bytes) h = tt
form_knows symbols (Pair a d) h = (form_knows symbols a h.0, form_knows symbols d h.1)

form_again : (symbols : List QualifiedName) (f : Form) → Symbols (IsIn symbols) f → form_of symbols (numbered symbols f) ≡ f
form_again symbols (Integer n) h = refl
form_again symbols (Symbol s) h = ap Symbol (named_again symbols s h)
form_again symbols (Text bytes) h = refl
form_again symbols (Pair a d) h = rw (form_again symbols a h.0, form_again symbols d h.1) refl

light_value : (o : Object ℕ) → has_narrow_integers o ≡ true → weight o ≤ max_weight → is_value o ≡ true
light_value o h l = rw h (le-leb (weight o) max_weight l)

-- ---- symbols that quotes and backquotes stand for

opening_built_in : AreBuiltIn (IsIn opening.symbols)
unfolding opening common_lisp_symbols acl2_symbols common_lisp_text acl2_text
opening_built_in = record { quote = (2, refl); nil = (1, refl); cons = (8, refl); append = (144, refl) }

built_in_later : (more symbols : List QualifiedName) → symbols ≡ opening.symbols ++ more → AreBuiltIn (IsIn symbols)
built_in_later more symbols e =
    let b = opening_built_in in
    subst (λ ss. AreBuiltIn (IsIn ss)) (sym e) (record {
      quote = in_longer opening.symbols more quote_name b.quote;
      nil = in_longer opening.symbols more nil_name b.nil;
      cons = in_longer opening.symbols more cons_name b.cons;
      append = in_longer opening.symbols more append_name b.append;
    })

-- ---- what was read

-- the symbols that are known then, and the form
pub record IsReading (s : Session) (symbols : List QualifiedName) (f : Form) : Type 0 where
  pub added : Added s.environment.packages s.symbols symbols
  pub fit : IsFit (IsIn symbols) f
  pub light : weight f ≤ max_weight

module _ (s : Session) (made : IsMade s) (offset : ℕ) (bytes : List ℕ) (f : Form) (end : ℕ) (symbols : List QualifiedName) where
  begun_reading : BeginsWith s.environment.packages s.environment.current s.symbols offset bytes true f end symbols → IsReading s symbols f
  begun_reading b =
      let opened = made_opened s made in
      let k = packages_of s.environment.packages s.environment.current in
      let had = names_had k opened.current false (AForm b.apart) b.text b.template b.names b.depth b.spells in
      let all = all_added s.environment.packages s.symbols b.names (made_sessions_known.table s made) had b.room in
      let added : Added s.environment.packages s.symbols symbols = subst (λ ss. Added s.environment.packages s.symbols ss) (sym b.knows) all.0 in
      let each : EachOne (IsIn symbols) b.names = subst (λ ss. EachOne (IsIn ss) b.names) (sym b.knows) all.1 in
      let whole : symbols ≡ opening.symbols ++ (opened.first.0 ++ added.more) = added.grown ∙ (ap (λ xs. xs ++ added.more) opened.first.1 ∙ append_assoc opening.symbols opened.first.0 added.more) in
      let fits = spelled_fits k opened.current (IsIn symbols) (built_in_later (opened.first.0 ++ added.more) symbols whole) false (AForm b.apart) b.text b.template b.names b.depth b.spells each in
      record { added = added; fit = subst (IsFit (IsIn symbols)) b.form (fit_form (IsIn symbols) b.template fits); light = b.light }

  module _ (e : next_at s.environment.packages s.environment.current s.symbols offset bytes true ≡ Stands f end symbols) where
    reading : IsReading s symbols f
    reading = begun_reading (stands_spelled s.environment.packages s.environment.current s.symbols offset bytes true f end symbols e)

    pub form_read : form_of symbols (numbered symbols f) ≡ f
    form_read = form_again symbols f (fit_symbols (IsIn symbols) f reading.fit)

    pub has_read : (k : Limits) → HasRead s (record { limits = k; read = symbols; form = numbered symbols f })
    has_read k = record {
      added = (reading.added.more, reading.added.grown);
      table = reading.added.table;
      known = form_knows symbols f (fit_symbols (IsIn symbols) f reading.fit);
      value = light_value (numbered symbols f) (narrow-named (λ x. unwrap_or (number_of symbols x) 0) f ∙ fit_narrow (IsIn symbols) f reading.fit)
          (subst (λ n. n ≤ max_weight) (sym (weight-named (λ x. unwrap_or (number_of symbols x) 0) f)) reading.light);
    }
