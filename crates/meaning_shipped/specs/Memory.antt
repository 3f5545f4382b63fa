-- The set that the shipped reader's lent memory holds, of any bytes fed in any pieces, is one that calls make.
use Rattle.std.specs.Prelude.{◌≡◌, false, List, ℕ}
use Rattle.std.proofs.Common.{arith}
use Rattle.sheet_lines.specs.Fed as pieces
use Rattle.sheet_reader.specs.State.{Lent, stands_in}
use Rattle.sheet_read.specs.Whole.{Shows}
use Rattle.sheet_read.specs.declared.State.{State}
use Rattle.meaning_shipped.specs.Line.{MadeOpen}
use Rattle.meaning_shipped.specs.Reader.{MadeReading, fed_all_made}

pub reader_made : (bytes : List ℕ) (s : State) (k : Lent) → Shows s k (pieces.fed_all pieces.begun bytes).reading → s.stopped ≡ false →
    MadeOpen (stands_in k s.reader.stands)
reader_made bytes s k S e = go (pieces.fed_all pieces.begun bytes).reading (fed_all_made pieces.begun bytes tt) S
  where
    go : (m : pieces.Reading) → MadeReading m → Shows s k m → MadeOpen (stands_in k s.reader.stands)
    go (pieces.going d at h) M T = let q = T.stands in rw q at M
    go pieces.stopped M T = let z : ◌≡◌ {A = ℕ} 0 1 = cc in absurd (omega arith)
