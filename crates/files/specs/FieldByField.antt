-- Lines that are read field by field: a line is not read where one of its fields is not, and is read where all are.
-- Assumes nothing.
use Rattle.std.specs.Prelude.{◌≡◌, ℕ, ◌<◌, ◌⊎◌, List, [], ◌∷◌, ◌++◌, length, ℤ, decimal, Option}
use Rattle.std.proofs.Common.{sym, refl, ap, ◌∙◌, append_assoc, inl, inr, arith, length-append}
use Rattle.std.specs.Fmt.{signed_decimal}
use Rattle.std.proofs.lemmas.List.{append-nil}
use Rattle.contracts.specs.declared.rows.ContractRow.{ContractRow}
use Rattle.credits.specs.declared.nodes.NodeRecord.{NodeRecord}
use Rattle.files.specs.Fields.{Small, SmallPrice, SmallNext, next_text, Lacks, ended, Front, NoFront, OneFront}
use Rattle.files.specs.Lines.{comma, newline, contract_line, WritableRow, node_line, WritableNode}
use Rattle.files.specs.Spelling.{one_decimal, one_next, one_signed}
use Rattle.files.specs.Splitting.{clean_decimal, clean_next, clean_signed, past, same_rest}

-- the bytes of a comma and of a newline are below that of a minus
pub comma_low : 44 < 45
comma_low = omega arith

pub newline_low : 10 < 45
newline_low = omega arith

regroup : (a : List ℕ) (end : ℕ) (b c : List ℕ) → ((a ++ end ∷ []) ++ b) ++ c ≡ a ++ end ∷ (b ++ c)
regroup a end b c = simp append_assoc

-- a field of a kind of row, and the byte that ends it
pub record Part (Row : Type 0) (Writable : Row → Type 0) : Type 1 where
  pub Value : Type 0
  pub field : Row → Value
  pub text : Value → List ℕ
  pub Fine : Value → Type 0
  pub end : ℕ
  pub clean : (x : Value) → Fine x → Lacks end (text x)
  pub one : (x y : Value) → Fine x → Fine y → text x ≡ text y → x ≡ y
  pub fine : (row : Row) → Writable row → Fine (field row)

module _ {Row : Type 0} {Writable : Row → Type 0} where
  -- the text of some fields of a row
  abbrev pub parts_text : List (Part Row Writable) → Row → List ℕ
  parts_text [] row = []
  parts_text (p ∷ ps) row = ended p.end p.text (p.field row) ++ parts_text ps row

  -- one of the fields is not read, after those that are
  abbrev pub Unread : List (Part Row Writable) → List ℕ → Type 0
  Unread [] bytes = ⊥
  Unread (p ∷ ps) bytes =
      NoFront (ended p.end p.text) p.Fine bytes
      ⊎ ((x : p.Value) × (mid : List ℕ) × Front (ended p.end p.text) p.Fine bytes x mid × Unread ps mid)

  pub no_line : (ps : List (Part Row Writable)) (bytes : List ℕ) → Unread ps bytes → NoFront (parts_text ps) Writable bytes
  no_line [] bytes unread row rest w e = unread
  no_line (p ∷ ps) bytes (inl none) row rest w e =
      none (p.field row) (parts_text ps row ++ rest) (p.fine row w) (e ∙ append_assoc (ended p.end p.text (p.field row)) (parts_text ps row) rest)
  no_line (p ∷ ps) bytes (inr so) row rest w e =
      no_line ps so.1 so.3 row rest w
      (past p.text p.Fine p.end bytes p.clean so.0 (p.field row) so.1 (parts_text ps row ++ rest) so.2 (p.fine row w)
      (e ∙ append_assoc (ended p.end p.text (p.field row)) (parts_text ps row) rest))

  -- all of the fields are read, as those of a row
  abbrev pub Read : Row → List (Part Row Writable) → List ℕ → List ℕ → Type 0
  Read row [] bytes rest = bytes ≡ rest
  Read row (p ∷ ps) bytes rest =
      (mid : List ℕ) × Front (ended p.end p.text) p.Fine bytes (p.field row) mid × Read row ps mid rest

  pub a_line : (row : Row) (ps : List (Part Row Writable)) (bytes rest : List ℕ) → Read row ps bytes rest → bytes ≡ parts_text ps row ++ rest
  a_line row [] bytes rest read = read
  a_line row (p ∷ ps) bytes rest read =
      let first = ended p.end p.text (p.field row) in
      read.1.written ∙ ap (λ l. first ++ l) (a_line row ps read.0 rest read.2) ∙ sym (append_assoc first (parts_text ps row) rest)

  -- two rows have the same values in some fields
  abbrev pub Same : List (Part Row Writable) → Row → Row → Type 0
  Same [] row row' = Unit {0}
  Same (p ∷ ps) row row' = (p.field row ≡ p.field row') × Same ps row row'

  pub one_line : (ps : List (Part Row Writable)) (row row' : Row) (r s : List ℕ) → Writable row → Writable row' → parts_text ps row ++ r ≡ parts_text ps row' ++ s → Same ps row row' × (r ≡ s)
  one_line [] row row' r s w w' e = (tt, e)
  one_line (p ∷ ps) row row' r s w w' e =
      let x = p.field row in
      let y = p.field row' in
      let more = parts_text ps row in
      let more' = parts_text ps row' in
      let cut = same_rest p.end (p.text x) (p.text y) (more ++ r) (more' ++ s) (p.clean x (p.fine row w)) (p.clean y (p.fine row' w'))
      (sym (regroup (p.text x) p.end more r) ∙ e ∙ regroup (p.text y) p.end more' s) in
      let so = one_line ps row row' r s w w' cut.1 in
      ((p.one x y (p.fine row w) (p.fine row' w') cut.0, so.0), so.1)

  abbrev pub number_part : (field : Row → ℕ) → ((row : Row) → Writable row → Small (field row)) → Part Row Writable
  number_part field fine =
      record { Value = ℕ; field = field; text = decimal; Fine = Small; end = 44; clean = clean_decimal 44 comma_low; one = one_decimal; fine = fine }

  abbrev pub price_part : (end : ℕ) → end < 45 → (field : Row → ℤ) → ((row : Row) → Writable row → SmallPrice (field row)) → Part Row Writable
  price_part end low field fine =
      record { Value = ℤ; field = field; text = signed_decimal; Fine = SmallPrice; end = end; clean = clean_signed end low; one = one_signed; fine = fine }

abbrev pub next_part : Part ContractRow WritableRow
next_part =
    record { Value = Option ℕ; field = λ row. row.next; text = next_text; Fine = SmallNext; end = 10; clean = clean_next 10 newline_low; one = one_next; fine = λ row w. w.next }

abbrev pub contract_parts : List (Part ContractRow WritableRow)
contract_parts =
    number_part (λ row. row.party) (λ row w. w.party)
    ∷ number_part (λ row. row.capacity) (λ row w. w.capacity)
    ∷ number_part (λ row. row.receipt) (λ row w. w.receipt)
    ∷ number_part (λ row. row.delivery) (λ row w. w.delivery)
    ∷ next_part
    ∷ []

contract_text : (row : ContractRow) → contract_line row ≡ parts_text contract_parts row
contract_text row = simp (append_assoc, append-nil)

abbrev pub node_parts : List (Part NodeRecord WritableNode)
node_parts =
    number_part (λ node. node.fifteen_minute_deviation) (λ node w. w.fifteen_minute_deviation)
    ∷ number_part (λ node. node.dispatch_deviation) (λ node w. w.dispatch_deviation)
    ∷ price_part 44 comma_low (λ node. node.fifteen_minute_price) (λ node w. w.fifteen_minute_price)
    ∷ price_part 10 newline_low (λ node. node.dispatch_price) (λ node w. w.dispatch_price)
    ∷ []

four : (a b c d : List ℕ) → a ++ comma ++ b ++ comma ++ c ++ comma ++ d ++ newline ≡ (a ++ comma) ++ ((b ++ comma) ++ ((c ++ comma) ++ ((d ++ newline) ++ [])))
four a b c d = simp (append_assoc, append-nil)

node_text : (node : NodeRecord) → node_line node ≡ parts_text node_parts node
node_text node =
    four (decimal node.fifteen_minute_deviation) (decimal node.dispatch_deviation) (signed_decimal node.fifteen_minute_price) (signed_decimal node.dispatch_price)

-- the two kinds of line, not read and read
pub no_contract : (bytes : List ℕ) → Unread contract_parts bytes → NoFront contract_line WritableRow bytes
no_contract bytes unread row rest w e =
    no_line contract_parts bytes unread row rest w (e ∙ ap (λ l. l ++ rest) (contract_text row))

pub a_contract : (bytes rest : List ℕ) (row : ContractRow) → Read row contract_parts bytes rest → bytes ≡ contract_line row ++ rest
a_contract bytes rest row read = a_line row contract_parts bytes rest read ∙ ap (λ l. l ++ rest) (sym (contract_text row))

-- a row whose fields are read one after another
pub contract_front : (bytes a b c d rest : List ℕ) (party capacity receipt delivery : ℕ) (next : Option ℕ) → Front (ended 44 decimal) Small bytes party a → Front (ended 44 decimal) Small a capacity b → Front (ended 44 decimal) Small b receipt c → Front (ended 44 decimal) Small c delivery d → Front (ended 10 next_text) SmallNext d next rest → Front contract_line WritableRow bytes (record { party = party; capacity = capacity; receipt = receipt; delivery = delivery; next = next }) rest
contract_front bytes a b c d rest party capacity receipt delivery next p q r s t =
    record {
      fine = record { party = p.fine; capacity = q.fine; receipt = r.fine; delivery = s.fine; next = t.fine };
      written = a_contract bytes rest _ (_, p, (_, q, (_, r, (_, s, (_, t, refl)))));
    }

pub no_node : (bytes : List ℕ) → Unread node_parts bytes → NoFront node_line WritableNode bytes
no_node bytes unread node rest w e =
    no_line node_parts bytes unread node rest w (e ∙ ap (λ l. l ++ rest) (node_text node))

pub a_node : (bytes rest : List ℕ) (node : NodeRecord) → Read node node_parts bytes rest → bytes ≡ node_line node ++ rest
a_node bytes rest node read = a_line node node_parts bytes rest read ∙ ap (λ l. l ++ rest) (sym (node_text node))

-- a record whose fields are read one after another
pub node_front : (bytes a b c rest : List ℕ) (fifteen_minute_deviation dispatch_deviation : ℕ) (fifteen_minute_price dispatch_price : ℤ) → Front (ended 44 decimal) Small bytes fifteen_minute_deviation a → Front (ended 44 decimal) Small a dispatch_deviation b → Front (ended 44 signed_decimal) SmallPrice b fifteen_minute_price c → Front (ended 10 signed_decimal) SmallPrice c dispatch_price rest → Front node_line WritableNode bytes (record { fifteen_minute_deviation = fifteen_minute_deviation; dispatch_deviation = dispatch_deviation; fifteen_minute_price = fifteen_minute_price; dispatch_price = dispatch_price }) rest
node_front bytes a b c rest first second third fourth p q r s =
    record {
      fine = record { fifteen_minute_deviation = p.fine; dispatch_deviation = q.fine; fifteen_minute_price = r.fine; dispatch_price = s.fine };
      written = a_node bytes rest _ (_, p, (_, q, (_, r, (_, s, refl))));
    }

-- of each kind bytes begin with one line at most
same_row : (a a' b b' c c' d d' : ℕ) (e e' : Option ℕ) → a ≡ a' → b ≡ b' → c ≡ c' → d ≡ d' → e ≡ e' → ◌≡◌ {A = ContractRow} record { party = a; capacity = b; receipt = c; delivery = d; next = e } record { party = a'; capacity = b'; receipt = c'; delivery = d'; next = e' }
same_row a a' b b' c c' d d' e e' p q r s t = cc

pub one_contract : OneFront contract_line WritableRow
one_contract bytes x y r s front front' =
    let e = sym (ap (λ l. l ++ r) (contract_text x)) ∙ sym front.written ∙ front'.written ∙ ap (λ l. l ++ s) (contract_text y) in
    let so = one_line contract_parts x y r s front.fine front'.fine e in
    let f = so.0 in
    (same_row _ _ _ _ _ _ _ _ _ _ f.0 f.1.0 f.1.1.0 f.1.1.1.0 f.1.1.1.1.0, so.1)

same_node : (a a' b b' : ℕ) (c c' d d' : ℤ) → a ≡ a' → b ≡ b' → c ≡ c' → d ≡ d' → ◌≡◌ {A = NodeRecord} record { fifteen_minute_deviation = a; dispatch_deviation = b; fifteen_minute_price = c; dispatch_price = d } record { fifteen_minute_deviation = a'; dispatch_deviation = b'; fifteen_minute_price = c'; dispatch_price = d' }
same_node a a' b b' c c' d d' p q r s = cc

pub one_node : OneFront node_line WritableNode
one_node bytes x y r s front front' =
    let e = sym (ap (λ l. l ++ r) (node_text x)) ∙ sym front.written ∙ front'.written ∙ ap (λ l. l ++ s) (node_text y) in
    let so = one_line node_parts x y r s front.fine front'.fine e in
    let f = so.0 in
    (same_node _ _ _ _ _ _ _ _ f.0 f.1.0 f.1.1.0 f.1.1.1.0, so.1)

-- a line has the byte that ends it
pub contract_some : (row : ContractRow) → 0 < length (contract_line row)
contract_some row = simp length-append (omega arith)

pub node_some : (node : NodeRecord) → 0 < length (node_line node)
node_some node = simp length-append (omega arith)
