-- What was done for one connection, in a journal that grows.
use Rattle.std.proofs.Common.{◌≡◌, ◌≢◌, ℕ, ◌+◌, ◌==◌, Bool, true, false, cond, List, [], ◌∷◌, ◌++◌, sum_by, refl, sym, ap, ◌∙◌, append-nil, arith}
use Rattle.std.proofs.lemmas.Bool.Decides.{nat_tests}
use Rattle.std.proofs.lemmas.List.Elements.{filter-append, All-head, All-tail}
use Rattle.std.proofs.lemmas.List.Sums.{sum_by-append}
use Rattle.loop_journal.specs.declared.entry.Entry.{Entry}
use Rattle.loop_journal.specs.Journals.{conn_of, read_by, written_by, own_of, AreOf, bytes_read, bytes_written}

pub own_both : (conn : ℕ) (journal more : List Entry) → own_of conn (journal ++ more) ≡ own_of conn journal ++ own_of conn more
own_both conn journal more = filter-append (λ (entry : Entry). conn_of entry == conn) journal more

pub own_same : (conn : ℕ) (entry : Entry) (journal : List Entry) → conn_of entry ≡ conn → own_of conn (entry ∷ journal) ≡ entry ∷ own_of conn journal
own_same conn entry journal same = let e : (conn_of entry == conn) ≡ true = grind (arith, nat_tests) in ap (λ (b : Bool). cond b (entry ∷ own_of conn journal) (own_of conn journal)) e

pub own_other : (conn : ℕ) (entry : Entry) (journal : List Entry) → conn_of entry ≢ conn → own_of conn (entry ∷ journal) ≡ own_of conn journal
own_other conn entry journal other = let e : (conn_of entry == conn) ≡ false = grind (arith, nat_tests) in ap (λ (b : Bool). cond b (entry ∷ own_of conn journal) (own_of conn journal)) e

-- what was done for one connection alone
pub own_all : (conn : ℕ) (journal : List Entry) → AreOf conn journal → own_of conn journal ≡ journal
own_all conn [] are = refl
own_all conn (entry ∷ journal) are =
    own_same conn entry journal (All-head (λ e. conn_of e ≡ conn) entry journal are) ∙
    ap (λ (es : List Entry). entry ∷ es) (own_all conn journal (All-tail (λ e. conn_of e ≡ conn) entry journal are))

-- and for another one
pub own_none : (conn other : ℕ) (journal : List Entry) → other ≢ conn → AreOf other journal → own_of conn journal ≡ []
own_none conn other [] apart are = refl
own_none conn other (entry ∷ journal) apart are =
    own_other conn entry journal (λ same. apart (sym (All-head (λ e. conn_of e ≡ other) entry journal are) ∙ same)) ∙
    own_none conn other journal apart (All-tail (λ e. conn_of e ≡ other) entry journal are)

pub own_more : (conn : ℕ) (journal more : List Entry) → AreOf conn more → own_of conn (journal ++ more) ≡ own_of conn journal ++ more
own_more conn journal more are = own_both conn journal more ∙ ap (λ (es : List Entry). own_of conn journal ++ es) (own_all conn more are)

pub own_stays : (conn other : ℕ) (journal more : List Entry) → other ≢ conn → AreOf other more → own_of conn (journal ++ more) ≡ own_of conn journal
own_stays conn other journal more apart are = own_both conn journal more ∙ ap (λ (es : List Entry). own_of conn journal ++ es) (own_none conn other more apart are) ∙ append-nil (own_of conn journal)

pub own_own : (conn : ℕ) (journal : List Entry) → own_of conn (own_of conn journal) ≡ own_of conn journal
own_own conn [] = refl
own_own conn (entry ∷ journal) = go (own_own conn journal) (conn_of entry == conn) refl
  where
    go : own_of conn (own_of conn journal) ≡ own_of conn journal → (b : Bool) → (conn_of entry == conn) ≡ b → own_of conn (own_of conn (entry ∷ journal)) ≡ own_of conn (entry ∷ journal)
    go rest true e =
        let same : conn_of entry ≡ conn = grind (arith, nat_tests) in
        let keep = own_same conn entry journal same in
        ap (own_of conn) keep ∙ own_same conn entry (own_of conn journal) same ∙ ap (λ (es : List Entry). entry ∷ es) rest ∙ sym keep
    go rest false e =
        let other : conn_of entry ≢ conn = λ same. grind (arith, nat_tests) in
        let drop = own_other conn entry journal other in
        ap (own_of conn) drop ∙ rest ∙ sym drop

pub read_both : (conn : ℕ) (journal more : List Entry) → bytes_read conn (journal ++ more) ≡ bytes_read conn journal + bytes_read conn more
read_both conn journal more = ap (λ (es : List Entry). sum_by read_by es) (own_both conn journal more) ∙ sum_by-append read_by (own_of conn journal) (own_of conn more)

pub written_both : (conn : ℕ) (journal more : List Entry) → bytes_written conn (journal ++ more) ≡ bytes_written conn journal + bytes_written conn more
written_both conn journal more = ap (λ (es : List Entry). sum_by written_by es) (own_both conn journal more) ∙ sum_by-append written_by (own_of conn journal) (own_of conn more)

-- what was done for one connection holds all that was read from it and written to it
pub read_own : (conn : ℕ) (journal : List Entry) → bytes_read conn (own_of conn journal) ≡ bytes_read conn journal
read_own conn journal = ap (λ (es : List Entry). sum_by read_by es) (own_own conn journal)

pub written_own : (conn : ℕ) (journal : List Entry) → bytes_written conn (own_of conn journal) ≡ bytes_written conn journal
written_own conn journal = ap (λ (es : List Entry). sum_by written_by es) (own_own conn journal)

-- the entries around one of the connection's are around it in what was done for that alone
pub own_cut : (conn : ℕ) (before : List Entry) (entry : Entry) (after : List Entry) → conn_of entry ≡ conn → own_of conn (before ++ entry ∷ after) ≡ own_of conn before ++ entry ∷ own_of conn after
own_cut conn before entry after same = own_both conn before (entry ∷ after) ∙ ap (λ (es : List Entry). own_of conn before ++ es) (own_same conn entry after same)
