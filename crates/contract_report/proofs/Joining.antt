-- Texts put one after another. Assumes nothing.
use Rattle.std.proofs.Common.{◌≡◌, ℕ, ◌+◌, ◌<◌, List, [], ◌∷◌, ◌++◌, length, get_or, Some, fold, Option, sym, refl, ap, ◌∙◌, subst, ⊎_elim, arith}
use Rattle.std.specs.List.{flat_map}
use Rattle.std.proofs.lemmas.List.{append-nil, append_assoc, length_push, get_or_append_left, get_or_push, flat_map_more}
use Rattle.std.proofs.lemmas.Bool.{cases_lt}
use Rattle.contracts.specs.declared.rows.ContractRow.{ContractRow}
use Rattle.contracts.specs.Chains.{row_at}
use Rattle.contracts.proofs.Folding.{Folding, folding_more}
use Rattle.contract_report.specs.Report.{row_line, row_words, PrintedAt, ChainsText, count_line}

-- the text so far, and the line of one more row
abbrev pub with_line : List ContractRow → ℕ → List ℕ → ℕ → List ℕ
with_line rows head text i = text ++ row_line rows head i

-- one row on, whose line is added
pub with_line_more : (rows its : List ContractRow) (head : ℕ) (start : Option ℕ) (i : ℕ) (here next : Option ℕ) (row : ContractRow) (text after : List ℕ) → its ≡ rows → here ≡ Some i → row ≡ row_at its i → next ≡ row.next → after ≡ text ++ (row_words head i row ++ (10 ∷ [])) → Folding (with_line rows head) rows start [] here text → Folding (with_line rows head) rows start [] next after
with_line_more rows its head start i here next row text after same at_row is onward more w =
    let ours = is ∙ ap (λ rs. row_at rs i) same in
    let line = more ∙ ap (λ r. text ++ (row_words head i r ++ (10 ∷ []))) ours in
    rw line (folding_more (with_line rows head) rows start [] i here next text at_row (onward ∙ ap (λ r. r.next) ours) w)

pub folded_joined : {X A : Type 0} (g : X → List A) (text : List A) (xs : List X) → fold (λ t x. t ++ g x) text xs ≡ text ++ flat_map g xs
folded_joined g text [] = sym (append-nil text)
folded_joined g text (x ∷ xs) = folded_joined g (text ++ g x) xs ∙ append_assoc text (g x) (flat_map g xs)

-- the count, and what is printed at the first n rows
pub record Printed (rows : List ContractRow) (n : ℕ) (text : List ℕ) : Type 0 where
  pub parts : List (List ℕ)
  pub long : length parts ≡ n
  pub each : (i : ℕ) → i < n → PrintedAt rows i (get_or parts i [])
  pub whole : text ≡ count_line (length rows) ++ flat_map (λ part. part) parts

pub printed_none : (rows : List ContractRow) (text : List ℕ) → text ≡ count_line (length rows) → Printed rows 0 text
printed_none rows text e =
    record { parts = []; long = refl; each = λ i h. absurd (omega arith); whole = e ∙ sym (append-nil (count_line (length rows))) }

pub printed_more : (rows : List ContractRow) (n : ℕ) (text part after : List ℕ) → PrintedAt rows n part → after ≡ text ++ part → Printed rows n text → Printed rows (n + 1) after
printed_more rows n text part after here more p =
    record {
      parts = p.parts ++ part ∷ [];
      long = length_push p.parts part ∙ ap (λ k. k + 1) p.long;
      each = λ i h. ⊎_elim
          (λ l. subst (PrintedAt rows i) (sym (get_or_append_left p.parts (part ∷ []) [] i (omega (arith, p.long)))) (p.each i l))
          (λ l. let e : n ≡ i = omega arith in subst (λ k. PrintedAt rows k (get_or (p.parts ++ part ∷ []) k [])) e (subst (PrintedAt rows n) (sym (get_or_push p.parts part [] n p.long)) here))
          (cases_lt i n);
      whole = more ∙ ap (λ t. t ++ part) p.whole ∙ flat_map_more (λ x. x) (count_line (length rows)) p.parts part;
    }

pub printed_all : (rows : List ContractRow) (n : ℕ) (text : List ℕ) → n ≡ length rows → Printed rows n text → ChainsText rows text
printed_all rows n text e p =
    record { parts = p.parts; each_row = p.long ∙ e; printed = λ i h. p.each i (omega arith); whole = p.whole }
