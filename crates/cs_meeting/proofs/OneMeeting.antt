-- Meetings of one world have one end.
use Rattle.std.proofs.Common.{◌≡◌, ◌≢◌, ◌⊎◌, ◌<◌, ◌≤◌, ◌^◌, ◌∙◌, ◌∷◌, inl, inr, ℕ, suc, Bool, true, false, List, [], Option, Some, None, length, refl, sym, ap, subst, arith}
use Rattle.cs_conflict.specs.declared.wish.Wish.{Wish}
use Rattle.cs_pending.specs.declared.position.position.Position.{Position}
use Rattle.cs_world.specs.Same.{IsSameWorld}
use Rattle.cs_world.specs.Sound.{IsSound}
use Rattle.cs_world.specs.World.{World}
use Rattle.cs_meeting.specs.Asks.{next_ask}
use Rattle.cs_meeting.specs.Laws.{AreWhole, IsWhole, IsWholeMeeting, OneMeeting, OneTurn, TurnIsSound}
use Rattle.cs_meeting.specs.Turns.{IsSettled, Meets, MovesOn, TakesMeetingTurn}
use Rattle.cs_meeting.specs.declared.ask.Ask.{Ask}
use Rattle.cs_meeting.specs.declared.ask.TheConstants.{TURNS}
use Rattle.cs_meeting.proofs.Places.{one_longer}

none_some : (ask : Ask) → ◌≡◌ {A = Option Ask} None (Some ask) → ⊥
none_some ask e = absurd cc

module _ (one : OneTurn) (sound : TurnIsSound) (limit : ℕ) (small : limit < 2 ^ 32) (r : ℕ) (wish : Wish) where
  abbrev Turn : World → World → List ℕ → Type 0
  Turn = TakesMeetingTurn limit r wish

  -- ---- a turn, in two worlds that are the same

  -- where there is nothing to ask for, none is taken
  none_settled : (old its next : World) (text : List ℕ) → IsSameWorld old its → IsSettled limit r wish old → Turn its next text → ⊥
  none_settled old its next text same (member, is, none) turn =
      let position : turn.before.position ≡ member.position = (same.members r member turn.before is turn.was).position in
      let asked : next_ask (length old.log) member.position ≡ Some turn.ask =
      subst (λ (p : Position). next_ask (length old.log) p ≡ Some turn.ask) position (subst (λ (n : ℕ). next_ask n turn.before.position ≡ Some turn.ask) (ap (λ log. length log) same.log) turn.next) in
      none_some turn.ask (sym none ∙ asked)

  settled_none : (old its next : World) (text : List ℕ) → IsSameWorld old its → Turn old next text → IsSettled limit r wish its → ⊥
  settled_none old its next text same turn (member, is, none) =
      let position : member.position ≡ turn.before.position = (same.members r turn.before member turn.was is).position in
      let asked : next_ask (length its.log) member.position ≡ Some turn.ask =
      subst (λ (p : Position). next_ask (length its.log) p ≡ Some turn.ask) (sym position) (subst (λ (n : ℕ). next_ask n turn.before.position ≡ Some turn.ask) (ap (λ log. length log) (sym same.log)) turn.next) in
      none_some turn.ask (sym none ∙ asked)

  -- what it leads to
  record Leads (old its new last : World) (some other : List ℕ) (turn : Turn old new some) (its_turn : Turn its last other) : Type 0 where
    pub same : IsSameWorld new last
    pub left_sound : IsSound limit new
    pub its_sound : IsSound limit last
    pub before : its_turn.before.position ≡ turn.before.position
    pub after : its_turn.after.position ≡ turn.after.position

  leads : (old its new last : World) (some other : List ℕ) → IsSound limit old → IsSound limit its → IsSameWorld old its
      → (turn : Turn old new some) → (its_turn : Turn its last other) → IsWhole turn → IsWhole its_turn → Leads old its new last some other turn its_turn
  leads old its new last some other is its_is same turn its_turn whole its_whole =
      let both = one limit r wish old its new last some other small is its_is same turn its_turn whole its_whole in
      record {
        same = both.2;
        left_sound = sound limit r wish old new some small is turn;
        its_sound = sound limit r wish its last other small its_is its_turn;
        before = (same.members r turn.before its_turn.before turn.was its_turn.was).position;
        after = (both.2.members r turn.after its_turn.after turn.is its_turn.is).position;
      }

  -- ---- turns that moved, one behind another

  -- there are more of the one than of the other: it takes one more in a world that is the same
  record GoesOnIn (IsSameAs : World → Type 0) : Type 0 where
    pub between : World
    pub next : World
    pub text : List ℕ
    pub turn : Turn between next text
    pub moved : turn.after.position.version ≢ turn.before.position.version
    pub whole : IsWhole turn
    pub is_sound : IsSound limit between
    pub same : IsSameAs between

  -- they end in worlds that are the same, or one goes on where the other ends
  abbrev Compared : World → World → ℕ → ℕ → Type 0
  Compared mid its_mid count its_count =
      ((count ≡ its_count) × IsSameWorld mid its_mid × IsSound limit mid × IsSound limit its_mid)
      ⊎ (((count < its_count) × IsSound limit mid × GoesOnIn (λ world. IsSameWorld mid world))
      ⊎ ((its_count < count) × IsSound limit its_mid × GoesOnIn (λ world. IsSameWorld world its_mid)))

  one_later : (mid its_mid : World) (count its_count : ℕ) → Compared mid its_mid count its_count → Compared mid its_mid (suc count) (suc its_count)
  one_later mid its_mid count its_count (inl (count_is, same, here, there)) = inl (ap (λ n. suc n) count_is, same, here, there)
  one_later mid its_mid count its_count (inr (inl (less, here, on))) = inr (inl (omega (arith, less), here, on))
  one_later mid its_mid count its_count (inr (inr (less, there, on))) = inr (inr (omega (arith, less), there, on))

  compared : (texts others : List (List ℕ)) (old its mid its_mid : World) → IsSound limit old → IsSound limit its → IsSameWorld old its
      → (moves : MovesOn limit r wish old texts mid) → (its_moves : MovesOn limit r wish its others its_mid)
      → AreWhole limit r wish texts old mid moves → AreWhole limit r wish others its its_mid its_moves → Compared mid its_mid (length texts) (length others)
  compared [] [] old its mid its_mid is its_is same ends its_ends whole its_whole =
      subst (λ (w : World). Compared w its_mid 0 0) (sym ends) (subst (λ (w : World). Compared old w 0 0) (sym its_ends) (inl (refl, same, is, its_is)))
  compared [] (text ∷ others) old its mid its_mid is its_is same ends (between, turn, moved, more) whole its_whole =
      subst (λ (w : World). Compared w its_mid 0 (suc (length others))) (sym ends) (inr (inl (
        omega arith,
        is,
        record { between = its; next = between; text = text; turn = turn; moved = moved; whole = its_whole.0; is_sound = its_is; same = same },
      )))
  compared (text ∷ texts) [] old its mid its_mid is its_is same (between, turn, moved, more) its_ends whole its_whole =
      subst (λ (w : World). Compared mid w (suc (length texts)) 0) (sym its_ends) (inr (inr (
        omega arith,
        its_is,
        record { between = old; next = between; text = text; turn = turn; moved = moved; whole = whole.0; is_sound = is; same = same },
      )))
  compared (text ∷ texts) (other ∷ others) old its mid its_mid is its_is same (between, turn, moved, more) (its_between, its_turn, its_moved, its_more) whole its_whole =
      let so = leads old its between its_between text other is its_is same turn its_turn whole.0 its_whole.0 in
      one_later mid its_mid (length texts) (length others) (compared texts others between its_between mid its_mid so.left_sound so.its_sound so.same more its_more whole.1 its_whole.1)

  -- ---- how a meeting ends, behind so many turns that moved

  record Rests (at_rest : Bool) (count all : ℕ) (mid new : World) : Type 0 where
    pub rests : at_rest ≡ true
    pub stays : new ≡ mid
    pub settled : IsSettled limit r wish mid
    pub few : count < TURNS
    pub all_are : all ≡ count

  record Stays (at_rest : Bool) (count all : ℕ) (mid new : World) : Type 0 where
    pub rests : at_rest ≡ false
    pub text : List ℕ
    pub turn : Turn mid new text
    pub still : turn.after.position.version ≡ turn.before.position.version
    pub whole : IsWhole turn
    pub few : count < TURNS
    pub all_are : all ≡ suc count

  record IsFull (at_rest : Bool) (count all : ℕ) (mid new : World) : Type 0 where
    pub rests : at_rest ≡ false
    pub stays : new ≡ mid
    pub full : count ≡ TURNS
    pub all_are : all ≡ count

  abbrev Ends : Bool → ℕ → ℕ → World → World → Type 0
  Ends at_rest count all mid new = Rests at_rest count all mid new ⊎ (Stays at_rest count all mid new ⊎ IsFull at_rest count all mid new)

  at_most : (at_rest : Bool) (count all : ℕ) (mid new : World) → Ends at_rest count all mid new → count ≤ TURNS
  at_most at_rest count all mid new (inl it) = let few = it.few in omega (arith, few)
  at_most at_rest count all mid new (inr (inl it)) = let few = it.few in omega (arith, few)
  at_most at_rest count all mid new (inr (inr it)) = let full = it.full in omega (arith, full)

  -- where one ends no other goes on
  no_further : (at_rest : Bool) (count all more : ℕ) (mid new : World) → Ends at_rest count all mid new → IsSound limit mid → GoesOnIn (λ world. IsSameWorld mid world) → count < more → more ≤ TURNS → ⊥
  no_further at_rest count all more mid new (inl it) is on less most = none_settled mid on.between on.next on.text on.same it.settled on.turn
  no_further at_rest count all more mid new (inr (inl it)) is on less most =
      let so = leads mid on.between new on.next it.text on.text is on.is_sound on.same it.turn on.turn it.whole on.whole in
      on.moved (ap (λ (p : Position). p.version) so.after ∙ it.still ∙ ap (λ (p : Position). p.version) (sym so.before))
  no_further at_rest count all more mid new (inr (inr it)) is on less most = let full = it.full in omega (arith, full, less, most)

  not_behind : (at_rest : Bool) (count all more : ℕ) (mid new : World) → Ends at_rest count all mid new → IsSound limit mid → GoesOnIn (λ world. IsSameWorld world mid) → count < more → more ≤ TURNS → ⊥
  not_behind at_rest count all more mid new (inl it) is on less most = settled_none on.between mid on.next on.text on.same on.turn it.settled
  not_behind at_rest count all more mid new (inr (inl it)) is on less most =
      let so = leads on.between mid on.next new on.text it.text on.is_sound is on.same on.turn it.turn on.whole it.whole in
      on.moved (ap (λ (p : Position). p.version) (sym so.after) ∙ it.still ∙ ap (λ (p : Position). p.version) so.before)
  not_behind at_rest count all more mid new (inr (inr it)) is on less most = let full = it.full in omega (arith, full, less, most)

  abbrev OneEnd : Bool → Bool → ℕ → ℕ → World → World → Type 0
  OneEnd at_rest its_rest all its_all new last = (at_rest ≡ its_rest) × (all ≡ its_all) × IsSameWorld new last

  unmoved : (mid its_mid new last : World) → new ≡ mid → last ≡ its_mid → IsSameWorld mid its_mid → IsSameWorld new last
  unmoved mid its_mid new last is its_is same = subst (λ (w : World). IsSameWorld w last) (sym is) (subst (λ (w : World). IsSameWorld mid w) (sym its_is) same)

  -- behind as many turns two end alike
  one_end : (at_rest its_rest : Bool) (count its_count all its_all : ℕ) (mid its_mid new last : World) → Ends at_rest count all mid new → Ends its_rest its_count its_all its_mid last
      → count ≡ its_count → IsSameWorld mid its_mid → IsSound limit mid → IsSound limit its_mid → OneEnd at_rest its_rest all its_all new last
  one_end at_rest its_rest count its_count all its_all mid its_mid new last (inl a) (inl b) same_count same is its_is =
      (a.rests ∙ sym b.rests, a.all_are ∙ same_count ∙ sym b.all_are, unmoved mid its_mid new last a.stays b.stays same)
  one_end at_rest its_rest count its_count all its_all mid its_mid new last (inl a) (inr (inl b)) same_count same is its_is =
      absurd (none_settled mid its_mid last b.text same a.settled b.turn)
  one_end at_rest its_rest count its_count all its_all mid its_mid new last (inl a) (inr (inr b)) same_count same is its_is =
      absurd (let few = a.few in let full = b.full in omega (arith, few, full, same_count))
  one_end at_rest its_rest count its_count all its_all mid its_mid new last (inr (inl a)) (inl b) same_count same is its_is =
      absurd (settled_none mid its_mid new a.text same a.turn b.settled)
  one_end at_rest its_rest count its_count all its_all mid its_mid new last (inr (inl a)) (inr (inl b)) same_count same is its_is =
      let so = leads mid its_mid new last a.text b.text is its_is same a.turn b.turn a.whole b.whole in
      (a.rests ∙ sym b.rests, a.all_are ∙ ap (λ n. suc n) same_count ∙ sym b.all_are, so.same)
  one_end at_rest its_rest count its_count all its_all mid its_mid new last (inr (inl a)) (inr (inr b)) same_count same is its_is =
      absurd (let few = a.few in let full = b.full in omega (arith, few, full, same_count))
  one_end at_rest its_rest count its_count all its_all mid its_mid new last (inr (inr a)) (inl b) same_count same is its_is =
      absurd (let few = b.few in let full = a.full in omega (arith, few, full, same_count))
  one_end at_rest its_rest count its_count all its_all mid its_mid new last (inr (inr a)) (inr (inl b)) same_count same is its_is =
      absurd (let few = b.few in let full = a.full in omega (arith, few, full, same_count))
  one_end at_rest its_rest count its_count all its_all mid its_mid new last (inr (inr a)) (inr (inr b)) same_count same is its_is =
      (a.rests ∙ sym b.rests, a.all_are ∙ same_count ∙ sym b.all_are, unmoved mid its_mid new last a.stays b.stays same)

  -- ---- a meeting, as turns that moved and an end

  record IsSplit (at_rest : Bool) (texts : List (List ℕ)) (old new : World) : Type 0 where
    pub front : List (List ℕ)
    pub mid : World
    pub moves : MovesOn limit r wish old front mid
    pub whole : AreWhole limit r wish front old mid moves
    pub ends : Ends at_rest (length front) (length texts) mid new

  split : (at_rest : Bool) (texts : List (List ℕ)) (old new : World) → (met : Meets limit r wish at_rest old texts new) → IsWholeMeeting limit r wish at_rest texts old new met → IsSplit at_rest texts old new
  split true texts old new (moves, settled, few) whole =
      record { front = texts; mid = new; moves = moves; whole = whole; ends = inl (record { rests = refl; stays = refl; settled = settled; few = few; all_are = refl }) }
  split false texts old new (inl (front, text, between, is, few, moves, turn, still)) whole = record {
    front = front;
    mid = between;
    moves = moves;
    whole = whole.0;
    ends = inr (inl (record { rests = refl; text = text; turn = turn; still = still; whole = whole.1; few = few; all_are = ap (λ (ts : List (List ℕ)). length ts) is ∙ one_longer front text }));
  }
  split false texts old new (inr (moves, all)) whole =
      record { front = texts; mid = new; moves = moves; whole = whole; ends = inr (inr (record { rests = refl; stays = refl; full = all; all_are = refl })) }

  joined : (at_rest its_rest : Bool) (old its new last : World) (texts others : List (List ℕ)) → IsSplit at_rest texts old new → IsSplit its_rest others its last
      → IsSound limit old → IsSound limit its → IsSameWorld old its → OneEnd at_rest its_rest (length texts) (length others) new last
  joined at_rest its_rest old its new last texts others a b is its_is same = elim (compared a.front b.front old its a.mid b.mid is its_is same a.moves b.moves a.whole b.whole) [
    | inl (count, alike, here, there) ↦ one_end at_rest its_rest (length a.front) (length b.front) (length texts) (length others) a.mid b.mid new last a.ends b.ends count alike here there
    | inr (inl (less, here, on)) ↦
        absurd (no_further at_rest (length a.front) (length texts) (length b.front) a.mid new a.ends here on less (at_most its_rest (length b.front) (length others) b.mid last b.ends))
    | inr (inr (less, there, on)) ↦
        absurd (not_behind its_rest (length b.front) (length others) (length a.front) b.mid last b.ends there on less (at_most at_rest (length a.front) (length texts) a.mid new a.ends))
  ]

pub one_meeting : OneTurn → TurnIsSound → OneMeeting
one_meeting one sound limit r wish at_rest its_rest old its new last texts others small is its_is same met its_met whole its_whole =
    joined one sound limit small r wish at_rest its_rest old its new last texts others
    (split one sound limit small r wish at_rest texts old new met whole) (split one sound limit small r wish its_rest others its last its_met its_whole) is its_is same
