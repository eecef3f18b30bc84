-- What the hosts of docs/RECALL.md do: the stored list of the theorem, and images/recall-foreign.events and images/recall-own.events.
use Rattle.std.specs.Prelude.{ℕ, ◌+◌, Bool, true, false, List, [], ◌∷◌, ◌++◌, replicate}
use Rattle.isolation_laws.specs.Foreign.{observer_of, none}
use Rattle.firmware_isolation_laws.specs.Words.{is_foreign_list}
use Rattle.recall_laws.specs.Host.{sda, read, byte_words, stop_words, event, timed}
use Rattle.recall_image_laws.specs.Image.{waiting}

-- ---- a transfer at the times of images/recall-foreign.events, SDA being put at every bit

-- PT0 is read; START, an address with its direction, two bytes of data, STOP; PT0 is read: 88 words
unfoldable pub said : ℕ → ℕ → ℕ → List ℕ
said address first second =
    read 0 ∷ sda false ∷ (byte_words address ++ (byte_words first ++ (byte_words second ++ (stop_words ++ (read 0 ∷ [])))))

-- a bit takes 18 instructions: SDA is put two after the fall of SCL, which rises eight later
abbrev pub bit_times : ℕ → List ℕ
bit_times i = i ∷ (i + 2) ∷ (i + 10) ∷ []

abbrev pub byte_times : ℕ → List ℕ
byte_times i =
    bit_times i ++ (bit_times (i + 18) ++ (bit_times (i + 36) ++ (bit_times (i + 54) ++ (bit_times (i + 72)
    ++ (bit_times (i + 90) ++ (bit_times (i + 108) ++ (bit_times (i + 126) ++ bit_times (i + 144))))))))

abbrev pub times : List ℕ
times = 148 ∷ 163 ∷ (byte_times 171 ++ (byte_times 333 ++ (byte_times 495 ++ (bit_times 657 ++ (675 ∷ 2138 ∷ [])))))

unfoldable pub transfer : ℕ → ℕ → ℕ → List ℕ
unfolding said
transfer address first second = timed times (said address first second)

-- the stored list: START 42 10 20 STOP, of which nothing is acknowledged
unfoldable pub stored : List ℕ
unfolding transfer
stored = transfer 0x42 0x10 0x20

-- a list that is foreign for this image, by its words: the stored one but for levels of SDA that make no START and no STOP, and no address in
-- it is the chip's
unfoldable pub is_foreign : List ℕ → Bool
unfolding stored waiting
is_foreign fs = is_foreign_list stored (observer_of waiting.chip none) fs

-- what is answered: the two reads of PT0 find P00 low
abbrev pub heard : List ℕ
heard = 0xFE ∷ (replicate 86 0 ++ (0xFE ∷ []))

-- ---- the two files: SDA is put only where its level changes

unfoldable pub foreign_events : List ℕ
foreign_events =
    event 148 0x01000000 ∷ event 163 0x03001800 ∷ event 171 0x03001900 ∷ event 181 0x03001901 ∷ event 189 0x03001900
    ∷ event 191 0x03001801 ∷ event 199 0x03001901 ∷ event 207 0x03001900 ∷ event 209 0x03001800 ∷ event 217 0x03001901
    ∷ event 225 0x03001900 ∷ event 235 0x03001901 ∷ event 243 0x03001900 ∷ event 253 0x03001901 ∷ event 261 0x03001900
    ∷ event 271 0x03001901 ∷ event 279 0x03001900 ∷ event 281 0x03001801 ∷ event 289 0x03001901 ∷ event 297 0x03001900
    ∷ event 299 0x03001800 ∷ event 307 0x03001901 ∷ event 315 0x03001900 ∷ event 317 0x03001801 ∷ event 325 0x03001901
    ∷ event 333 0x03001900 ∷ event 335 0x03001800 ∷ event 343 0x03001901 ∷ event 351 0x03001900 ∷ event 361 0x03001901
    ∷ event 369 0x03001900 ∷ event 379 0x03001901 ∷ event 387 0x03001900 ∷ event 389 0x03001801 ∷ event 397 0x03001901
    ∷ event 405 0x03001900 ∷ event 407 0x03001800 ∷ event 415 0x03001901 ∷ event 423 0x03001900 ∷ event 433 0x03001901
    ∷ event 441 0x03001900 ∷ event 451 0x03001901 ∷ event 459 0x03001900 ∷ event 469 0x03001901 ∷ event 477 0x03001900
    ∷ event 479 0x03001801 ∷ event 487 0x03001901 ∷ event 495 0x03001900 ∷ event 497 0x03001800 ∷ event 505 0x03001901
    ∷ event 513 0x03001900 ∷ event 523 0x03001901 ∷ event 531 0x03001900 ∷ event 533 0x03001801 ∷ event 541 0x03001901
    ∷ event 549 0x03001900 ∷ event 551 0x03001800 ∷ event 559 0x03001901 ∷ event 567 0x03001900 ∷ event 577 0x03001901
    ∷ event 585 0x03001900 ∷ event 595 0x03001901 ∷ event 603 0x03001900 ∷ event 613 0x03001901 ∷ event 621 0x03001900
    ∷ event 631 0x03001901 ∷ event 639 0x03001900 ∷ event 641 0x03001801 ∷ event 649 0x03001901 ∷ event 657 0x03001900
    ∷ event 659 0x03001800 ∷ event 667 0x03001901 ∷ event 675 0x03001801 ∷ event 2138 0x01000000 ∷ []

-- START A0 10 20 STOP, acknowledged; the host waits where the chip holds SCL
unfoldable pub own_events : List ℕ
own_events =
    event 148 0x01000000 ∷ event 163 0x03001800 ∷ event 171 0x03001900 ∷ event 173 0x03001801 ∷ event 181 0x03001901
    ∷ event 189 0x03001900 ∷ event 191 0x03001800 ∷ event 199 0x03001901 ∷ event 207 0x03001900 ∷ event 209 0x03001801
    ∷ event 217 0x03001901 ∷ event 225 0x03001900 ∷ event 227 0x03001800 ∷ event 235 0x03001901 ∷ event 243 0x03001900
    ∷ event 253 0x03001901 ∷ event 261 0x03001900 ∷ event 271 0x03001901 ∷ event 279 0x03001900 ∷ event 289 0x03001901
    ∷ event 297 0x03001900 ∷ event 307 0x03001901 ∷ event 312 0x03001900 ∷ event 314 0x03001801 ∷ event 320 0x03001901
    ∷ event 328 0x03001900 ∷ event 329 0x03001800 ∷ event 337 0x03001901 ∷ event 344 0x03001900 ∷ event 354 0x03001901
    ∷ event 362 0x03001900 ∷ event 372 0x03001901 ∷ event 380 0x03001900 ∷ event 382 0x03001801 ∷ event 390 0x03001901
    ∷ event 398 0x03001900 ∷ event 400 0x03001800 ∷ event 408 0x03001901 ∷ event 416 0x03001900 ∷ event 426 0x03001901
    ∷ event 434 0x03001900 ∷ event 444 0x03001901 ∷ event 452 0x03001900 ∷ event 462 0x03001901 ∷ event 470 0x03001900
    ∷ event 472 0x03001801 ∷ event 480 0x03001901 ∷ event 488 0x03001900 ∷ event 489 0x03001800 ∷ event 497 0x03001901
    ∷ event 504 0x03001900 ∷ event 514 0x03001901 ∷ event 522 0x03001900 ∷ event 524 0x03001801 ∷ event 532 0x03001901
    ∷ event 540 0x03001900 ∷ event 542 0x03001800 ∷ event 550 0x03001901 ∷ event 558 0x03001900 ∷ event 568 0x03001901
    ∷ event 576 0x03001900 ∷ event 586 0x03001901 ∷ event 594 0x03001900 ∷ event 604 0x03001901 ∷ event 612 0x03001900
    ∷ event 622 0x03001901 ∷ event 630 0x03001900 ∷ event 632 0x03001801 ∷ event 640 0x03001901 ∷ event 648 0x03001900
    ∷ event 649 0x03001800 ∷ event 657 0x03001901 ∷ event 664 0x03001801 ∷ event 2172 0x01000000 ∷ []
