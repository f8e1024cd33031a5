-- A key more, as it is put in the builder's bytes.
use Rattle.std.proofs.Common.{◌≡◌, ℕ, Bool, true, false, List, [], ◌∷◌, ◌++◌, length, sym, ◌∙◌, append-nil}
use Rattle.std.specs.List.{All}
use Rattle.cs_order.specs.Laws.{PackedKeys}
use Rattle.cs_order.specs.Spots.{IsSpotIn, keys_in}
use Rattle.cs_change.specs.declared.change.Change.{Change}
use Rattle.cs_normal.specs.keyed.NormalForm.{change_bytes, has_key}
use Rattle.cs_normal.specs.keyed.Steps.Forms.{key_if_set}

module _ (law : PackedKeys) where
  pub keys_more : (bytes key new : List ℕ) (spots now : List (ℕ × ℕ)) (start end : ℕ) → All (IsSpotIn (length bytes)) spots → new ≡ bytes ++ key → start ≡ length bytes → end ≡ length new → now ≡ spots ++ (start, end) ∷ []
      → keys_in new now ≡ keys_in bytes spots ++ key ∷ []
  keys_more bytes key new spots now start end within grown begins ends is =
      rw (is, begins, ends, grown) (law.one_more bytes key spots within)

  -- the key of a change more, if it is set
  pub key_more : (marks : List Bool) (change : Change) (bytes new : List ℕ) (spots now : List (ℕ × ℕ)) (start end : ℕ) → has_key marks change ≡ true → All (IsSpotIn (length bytes)) spots → new ≡ bytes ++ change_bytes marks change → start ≡ length bytes → end ≡ length new → now ≡ spots ++ (start, end) ∷ []
      → keys_in new now ≡ keys_in bytes spots ++ key_if_set marks change
  key_more marks change bytes new spots now start end set within grown begins ends is =
      simp set (keys_more bytes (change_bytes marks change) new spots now start end within grown begins ends is)

  pub no_key_more : (marks : List Bool) (change : Change) (bytes new : List ℕ) (spots : List (ℕ × ℕ)) → has_key marks change ≡ false → All (IsSpotIn (length bytes)) spots → new ≡ bytes ++ change_bytes marks change → keys_in new spots ≡ keys_in bytes spots ++ key_if_set marks change
  no_key_more marks change bytes new spots none within grown =
      simp none (rw grown (law.stay bytes (change_bytes marks change) spots within) ∙ sym (append-nil (keys_in bytes spots)))
