-- Calls made one after the other.
use Prim.Native.Nat.{ℕ}
use mathlib.Core.Path.{◌≡◌, refl, sym, ◌∙◌, ap}
use mathlib.Core.List.{List, [], ◌∷◌, ◌++◌, map, map-append, append_assoc, append-nil}
use Rattle.volatile.specs.declared.Record.{Record}
use Rattle.protocol.specs.Calls.{perform}
use Rattle.protocol.specs.Claim.{Call}
use Rattle.costs.specs.Claims.{AnsweredCall, played}
use Rattle.costs.proofs.Opened.{called}
use Rattle.shutdown.specs.Shutdown.{call_of, end_of}

-- The calls of a list are answered as is due and lead from one image and record to another, whatever follows them.
pub record Leads (image : List ℕ) (r : Record) (due : List AnsweredCall) (image' : List ℕ) (r' : Record) : Type 0
  where
    pub answers : (more : List Call)
        → played image r (map call_of due ++ more) ≡ due ++ played image' r' more
    pub ends : (more : List Call) → end_of image r (map call_of due ++ more) ≡ end_of image' r' more

module _ {image : List ℕ} {r : Record} where
  pub leads_none : Leads image r [] image r
  leads_none = record { answers = λ more. refl; ends = λ more. refl }

  -- a call that is answered so, and those after it
  pub leads_more : {image' : List ℕ} {r' : Record} (x : AnsweredCall) {due : List AnsweredCall}
      → called image r x.request x.k ≡ x
      → Leads (perform image r x.request x.k).image (perform image r x.request x.k).reply.next due
      image' r'
      → Leads image r (x ∷ due) image' r'
  unfolding played end_of
  leads_more x {due} e rest =
      let o = perform image r x.request x.k in
      record {
        answers = λ more.
            ap (λ y. y ∷ played o.image o.reply.next (map call_of due ++ more)) e
            ∙ ap (λ l. x ∷ l) (rest.answers more);
        ends = λ more. rest.ends more;
      }

-- calls after calls
pub leads_then : {image image' image'' : List ℕ} {r r' r'' : Record} {xs ys : List AnsweredCall}
    → Leads image r xs image' r' → Leads image' r' ys image'' r'' → Leads image r (xs ++ ys) image'' r''
leads_then {image} {image'' = image''} {r} {r'' = r''} {xs} {ys} p q =
    record {
      answers = λ more.
          ap (played image r) (calls more) ∙ p.answers (map call_of ys ++ more) ∙ ap (λ l. xs ++ l) (q.answers more)
          ∙ sym (append_assoc xs ys (played image'' r'' more));
      ends = λ more. ap (end_of image r) (calls more) ∙ p.ends (map call_of ys ++ more) ∙ q.ends more;
    }
  where
    calls : (more : List Call) → map call_of (xs ++ ys) ++ more ≡ map call_of xs ++ (map call_of ys ++ more)
    calls more =
        ap (λ l. l ++ more) (map-append call_of xs ys) ∙ append_assoc (map call_of xs) (map call_of ys) more

-- nothing follows them
module _ {image image' : List ℕ} {r r' : Record} {due : List AnsweredCall} (p : Leads image r due image' r') where
  pub leads_all : played image r (map call_of due) ≡ due
  unfolding played
  leads_all = ap (played image r) (sym (append-nil (map call_of due))) ∙ p.answers [] ∙ append-nil due

  pub leads_end : end_of image r (map call_of due) ≡ record { image = image'; state = r' }
  unfolding end_of
  leads_end = ap (end_of image r) (sym (append-nil (map call_of due))) ∙ p.ends []
