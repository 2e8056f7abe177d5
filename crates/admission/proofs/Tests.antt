-- The tests of a read and of a write in their order, and what an access that passed them knows.
use Prim.Native.Nat.{ℕ, ◌+◌, ◌-◌, ◌/◌, ◌≤◌, ◌<◌}
use mathlib.Core.Path.{◌≡◌, refl, ◌∙◌, ap, subst}
use mathlib.Core.Bool.{Bool, true, false, ◌||◌, cond}
use mathlib.Core.List.{List, [], ◌∷◌, ◌++◌}
use lib.Dec.{ltb}
use lib.ListN.{length}
use native.Mathlib.Omega.{arith}
use borrow.Author.Tests.{le-ltb}
use Rattle.boards.specs.Lists.{any_of}
use Rattle.boards.specs.Boards.{has, tagged_in}
use Rattle.protocol.specs.Image.{Current, allowed, shape_of, total, base, view}
use Rattle.volatile.specs.Volatile.{engaged}
use Rattle.protocol.specs.Accesses.{board_of}
use Rattle.protocol.specs.Calls.{Read, Write, Test, test, first, refusals, refusal_at, bad_range, tags_of}
use Rattle.protocol.specs.Calls.{entry_tests, read_tests, write_tests, over_port_limit}
use Rattle.protocol.specs.declared.Shape.{Shape}
use Rattle.protocol.specs.declared.Requester.{Requester}
use Rattle.volatile.specs.declared.Record.{Record}
use Rattle.std.proofs.lemmas.Bool.Decides.{nat_tests}
use Rattle.boards.proofs.Basics.{row_fits}
use Rattle.protocol.proofs.Refusals.{entry_goes_on, first_goes_on}
use Rattle.protocol.proofs.Safety.{block_below}
use Rattle.protocol.proofs.Plans.{ranged}
use Rattle.layout.proofs.Laws.{bounded, shaped_power, tag_read}
use Rattle.entry.specs.Tested.{EntryPassed, Passed}
use Rattle.admission.specs.declared.Place.{Place}
use Rattle.admission.specs.Places.{place_at, Placed}
use Rattle.admission.proofs.Extent.{any_touched}

-- the first and the last block of an access are blocks of the image, and all tags and the access's cells lie in it
pub record InImage (s : Shape) (a n : ℕ) : Type 0 where
  pub first : a / s.size < s.blocks
  pub last : (a + n - 1) / s.size < s.blocks
  pub tags : 12 + s.blocks ≤ total s
  pub cells : base s Current + a + n ≤ total s

pub in_image : (s : Shape) (a n : ℕ) → allowed s ≡ true → bad_range s a n ≡ false → InImage s a n
unfolding base total
in_image s a n h ok =
    let positive : 0 < s.size = omega (arith, bounded h) in
    let r = ranged s a n ok in
    record {
      first = block_below s a positive (omega (arith, r));
      last = block_below s (a + n - 1) positive (omega (arith, r));
      tags = omega arith;
      cells = omega (arith, r);
    }

-- ---- what `bad_range` and `over_port_limit` need, and what `locate` does

pub ruleset range_laws = (nat_tests, bounded, row_fits)

pub ruleset place_laws = (bounded, shaped_power, ranged, in_image)

-- ---- accesses that are taken

-- an access that is taken
pub placed : {image : List ℕ} {r : Record} {who : Requester} {i n room : ℕ} {s : Shape} {p : Place} (a : ℕ)
    → i ≡ board_of s who → p ≡ place_at s image i a n → EntryPassed image r (board_of (shape_of image) who) s
    → bad_range s a n ≡ false → n ≤ room → p.first.tag ≤ s.boards → p.last.tag ≤ s.boards
    → Placed image r who a n room p
placed {image} {r} {who} {i} {n} {room} {p = p} a q e entry ok fits l m =
    subst
    (λ s. i ≡ board_of s who → p ≡ place_at s image i a n → EntryPassed image r (board_of (shape_of image) who) s
    → bad_range s a n ≡ false → p.first.tag ≤ s.boards → p.last.tag ≤ s.boards → Placed image r who a n room p)
    entry.shaped.shape
    (λ q e entry ok l m.
    record {
      entry = entry;
      range = ok;
      fits = fits;
      place = e ∙ ap (λ i. place_at (shape_of image) image i a n) q;
      first_known = l;
      last_known = m;
    })
    q e entry ok l m

-- a test of a touched block's tag, by the place
any_placed : (s : Shape) (image : List ℕ) {i : ℕ} {p : Place} (a n : ℕ) → allowed s ≡ true → bad_range s a n ≡ false
    → p ≡ place_at s image i a n → (t : ℕ → Bool)
    → any_of t (tags_of s (view s image) a n) ≡ t p.first.tag || t p.last.tag
any_placed s image a n h ok at t =
    let below = in_image s a n h ok in
    any_touched s a n (view s image) t
    ∙ rw (tag_read s image (a / s.size) below.first, tag_read s image ((a + n - 1) / s.size) below.last, at)

-- ---- the tests of a read, once the first tests are passed

module _ {image : List ℕ} {r : Record} {s : Shape} (who : Requester) (a n room : ℕ)
    (known : let i = board_of (shape_of image) who in
    Passed (first (entry_tests image r i)) (EntryPassed image r i) s)
  where
    pub read_own : refusal_at image r (Read who a n room) ≡ first (read_tests s (view s image) r who a n room)
    unfolding refusals
    read_own =
        entry_goes_on image r (board_of (shape_of image) who) _ known.none
        ∙ ap (λ t. first (read_tests t (view t image) r who a n room)) known.known.shaped.shape

    -- the tags are those of the place
    pub read_at : bad_range s a n ≡ false → over_port_limit who n ≡ false → n ≤ room →
        {i : ℕ} {p : Place} → p ≡ place_at s image i a n → refusal_at image r (Read who a n room)
        ≡ first
        (test (ltb s.boards p.first.tag || ltb s.boards p.last.tag) 11
        ∷ test (has (engaged r) (board_of s who)) 13
        ∷ [])
    unfolding read_tests first
    read_at ok within_limit fits at =
        let tags = any_placed s image a n known.known.shaped.allowed_shape ok at (ltb s.boards) in
        read_own ∙ rw (tags, ok, within_limit, le-ltb room n fits)

-- ---- a write tests what a read with room enough tests, and then the tag

-- a test that holds for one of two reasons is two tests
one_by_one : (b c : Bool) (x y : ℕ) → cond (b || c) x y ≡ cond b x (cond c x y)
one_by_one true c x y = refl
one_by_one false c x y = refl

module _ (image : List ℕ) (r : Record) (who : Requester) (a : ℕ) (bytes : List ℕ) where
  abbrev pub as_read : List Test
  as_read = refusals image (shape_of image) (view (shape_of image) image) r (Read who a (length bytes) (length bytes))

  abbrev tagged_test : Test
  tagged_test = let s = shape_of image in
      test (any_of (tagged_in (engaged r)) (tags_of s (view s image) a (length bytes))) 13

  pub write_tests_as : refusal_at image r (Write who a bytes) ≡ first (as_read ++ tagged_test ∷ [])
  unfolding refusals entry_tests read_tests write_tests first
  write_tests_as = rw (le-ltb (length bytes) (length bytes) (omega arith), one_by_one)

  pub write_last : {p : Place} → Passed (first as_read) (Placed image r who a (length bytes) (length bytes)) p
      → refusal_at image r (Write who a bytes)
      ≡ cond (tagged_in (engaged r) p.first.tag || tagged_in (engaged r) p.last.tag) 13 0
  unfolding refusals entry_tests read_tests any_of first
  write_last {p} h =
      let k = h.known in
      write_tests_as ∙ first_goes_on as_read (tagged_test ∷ []) refl h.none
      ∙ ap (λ b. cond b 13 0)
      (any_placed (shape_of image) image a (length bytes) k.entry.shaped.allowed_shape k.range k.place
      (tagged_in (engaged r)))
