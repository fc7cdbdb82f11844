-- Chain files as literal bytes, and reports as strings: what is read from them and written to them.
--   feed_file, permeate_file, flush_file
--                            the packed files of 01's factory chains
--   mixed, mixed_past, mixed_rows, mixed_nodes, mixed_file
--                            a chain whose words all differ and, but for the reserved ones, do not fit a byte; the same with slots past n that are not zero; its two tables; and
--                            its packed file
--   apart_file               another file of it: the node table first, bytes in neither table before, between and behind
--   full, full_file          a chain of 16 queues
--   short, short_file        three queues, one of them with a negative margin, and no number twice in a line
--   heading, feed_report     the report's first line, and the whole report of Feed
--   files, reports           the questions with their answers
use Rattle.std.specs.Prelude.{List, [], ◌∷◌, ◌++◌, ℕ, ◌-◌, replicate}
use Rattle.ardenquill.specs.Records.{Chain}
use Rattle.ardenquill.specs.Reports.{text, longest_report}
use Rattle.figures.specs.Questions.{read, write, factory, report, refusal_line, headed, analyse}
use Rattle.figures.specs.Literals.{Row, repeated, row, chain_of, chain, feed, permeate, flush, refused, chain_is, sizes_are}

-- "all words are 32 bits, little-endian"; n, y and the two offsets with the length; a line to each queue row; the execution times
abbrev pub feed_file : List ℕ
feed_file =
    1 ∷ 0 ∷ 0 ∷ 0 ∷ 10 ∷ 0 ∷ 0 ∷ 0 ∷ 20 ∷ 0 ∷ 0 ∷ 0 ∷ 40 ∷ 0 ∷ 0 ∷ 0 ∷ 44 ∷ 0 ∷ 0 ∷ 0
    ∷ 4 ∷ 0 ∷ 0 ∷ 0 ∷ 7 ∷ 0 ∷ 0 ∷ 0 ∷ 3 ∷ 0 ∷ 0 ∷ 0 ∷ 0 ∷ 0 ∷ 0 ∷ 0 ∷ 0 ∷ 0 ∷ 0 ∷ 0
    ∷ 2 ∷ 0 ∷ 0 ∷ 0 ∷ []

abbrev pub permeate_file : List ℕ
permeate_file =
    2 ∷ 0 ∷ 0 ∷ 0 ∷ 5 ∷ 0 ∷ 0 ∷ 0 ∷ 20 ∷ 0 ∷ 0 ∷ 0 ∷ 60 ∷ 0 ∷ 0 ∷ 0 ∷ 68 ∷ 0 ∷ 0 ∷ 0
    ∷ 4 ∷ 0 ∷ 0 ∷ 0 ∷ 7 ∷ 0 ∷ 0 ∷ 0 ∷ 3 ∷ 0 ∷ 0 ∷ 0 ∷ 0 ∷ 0 ∷ 0 ∷ 0 ∷ 0 ∷ 0 ∷ 0 ∷ 0
    ∷ 3 ∷ 0 ∷ 0 ∷ 0 ∷ 4 ∷ 0 ∷ 0 ∷ 0 ∷ 2 ∷ 0 ∷ 0 ∷ 0 ∷ 0 ∷ 0 ∷ 0 ∷ 0 ∷ 0 ∷ 0 ∷ 0 ∷ 0
    ∷ 1 ∷ 0 ∷ 0 ∷ 0 ∷ 1 ∷ 0 ∷ 0 ∷ 0 ∷ []

abbrev pub flush_file : List ℕ
flush_file =
    2 ∷ 0 ∷ 0 ∷ 0 ∷ 100 ∷ 0 ∷ 0 ∷ 0 ∷ 20 ∷ 0 ∷ 0 ∷ 0 ∷ 60 ∷ 0 ∷ 0 ∷ 0 ∷ 68 ∷ 0 ∷ 0 ∷ 0
    ∷ 16 ∷ 0 ∷ 0 ∷ 0 ∷ 64 ∷ 0 ∷ 0 ∷ 0 ∷ 16 ∷ 0 ∷ 0 ∷ 0 ∷ 0 ∷ 0 ∷ 0 ∷ 0 ∷ 0 ∷ 0 ∷ 0 ∷ 0
    ∷ 1 ∷ 0 ∷ 0 ∷ 0 ∷ 8 ∷ 0 ∷ 0 ∷ 0 ∷ 8 ∷ 0 ∷ 0 ∷ 0 ∷ 0 ∷ 0 ∷ 0 ∷ 0 ∷ 0 ∷ 0 ∷ 0 ∷ 0
    ∷ 5 ∷ 0 ∷ 0 ∷ 0 ∷ 3 ∷ 0 ∷ 0 ∷ 0 ∷ []

-- 66,051 is 3 + 2 × 256 + 1 × 65,536, and so on
abbrev pub mixed : Chain
mixed = chain 66051 (row 1027 65535 2054 1000000 0 ∷ row 513 1541 1284 131844 0 ∷ []) (394500 ∷ 263430 ∷ [])

abbrev pub mixed_past : Chain
mixed_past = chain_of 2 66051 (row 1027 65535 2054 1000000 0 ∷ row 513 1541 1284 131844 0 ∷ row 0 1 2 3 4 ∷ []) (394500 ∷ 263430 ∷ 0 ∷ 9 ∷ [])

abbrev pub mixed_rows : List ℕ
mixed_rows =
    3 ∷ 4 ∷ 0 ∷ 0 ∷ 255 ∷ 255 ∷ 0 ∷ 0 ∷ 6 ∷ 8 ∷ 0 ∷ 0 ∷ 64 ∷ 66 ∷ 15 ∷ 0 ∷ 0 ∷ 0 ∷ 0 ∷ 0
    ∷ 1 ∷ 2 ∷ 0 ∷ 0 ∷ 5 ∷ 6 ∷ 0 ∷ 0 ∷ 4 ∷ 5 ∷ 0 ∷ 0 ∷ 4 ∷ 3 ∷ 2 ∷ 0 ∷ 0 ∷ 0 ∷ 0 ∷ 0 ∷ []

abbrev pub mixed_nodes : List ℕ
mixed_nodes = 4 ∷ 5 ∷ 6 ∷ 0 ∷ 6 ∷ 5 ∷ 4 ∷ 0 ∷ []

abbrev pub mixed_file : List ℕ
mixed_file =
    2 ∷ 0 ∷ 0 ∷ 0 ∷ 3 ∷ 2 ∷ 1 ∷ 0 ∷ 20 ∷ 0 ∷ 0 ∷ 0 ∷ 60 ∷ 0 ∷ 0 ∷ 0 ∷ 68 ∷ 0 ∷ 0 ∷ 0
    ∷ (mixed_rows ++ mixed_nodes)

-- the queue table at 36, the node table at 24, 79 bytes; "bytes in neither header nor table are ignored"
abbrev pub apart_file : List ℕ
apart_file =
    2 ∷ 0 ∷ 0 ∷ 0 ∷ 3 ∷ 2 ∷ 1 ∷ 0 ∷ 36 ∷ 0 ∷ 0 ∷ 0 ∷ 24 ∷ 0 ∷ 0 ∷ 0 ∷ 79 ∷ 0 ∷ 0 ∷ 0
    ∷ 9 ∷ 9 ∷ 9 ∷ 9 ∷ (mixed_nodes ++ (9 ∷ 9 ∷ 9 ∷ 9 ∷ (mixed_rows ++ (9 ∷ 9 ∷ 9 ∷ []))))

-- 16 queues: the node table at 340, which is 84 + 1 × 256, and 404 bytes
abbrev pub full : Chain
full = chain 16 (repeated 16 (row 1 1 1 0 0 ∷ [])) (repeated 16 (1 ∷ []))

abbrev pub full_file : List ℕ
full_file =
    16 ∷ 0 ∷ 0 ∷ 0 ∷ 16 ∷ 0 ∷ 0 ∷ 0 ∷ 20 ∷ 0 ∷ 0 ∷ 0 ∷ 84 ∷ 1 ∷ 0 ∷ 0 ∷ 148 ∷ 1 ∷ 0 ∷ 0
    ∷ (repeated 16 (1 ∷ 0 ∷ 0 ∷ 0 ∷ 1 ∷ 0 ∷ 0 ∷ 0 ∷ 1 ∷ 0 ∷ 0 ∷ 0 ∷ 0 ∷ 0 ∷ 0 ∷ 0 ∷ 0 ∷ 0 ∷ 0 ∷ 0 ∷ []) ++ repeated 16 (1 ∷ 0 ∷ 0 ∷ 0 ∷ []))

-- y 100; (6,17,4,30) (5,22,3,9) (4,35,14,1000); e 2, 3, 4
abbrev pub short : Chain
short = chain 100 (row 6 17 4 30 0 ∷ row 5 22 3 9 0 ∷ row 4 35 14 1000 0 ∷ []) (2 ∷ 3 ∷ 4 ∷ [])

-- 1,000 is 232 + 3 × 256
abbrev pub short_file : List ℕ
short_file =
    3 ∷ 0 ∷ 0 ∷ 0 ∷ 100 ∷ 0 ∷ 0 ∷ 0 ∷ 20 ∷ 0 ∷ 0 ∷ 0 ∷ 80 ∷ 0 ∷ 0 ∷ 0 ∷ 92 ∷ 0 ∷ 0 ∷ 0
    ∷ 6 ∷ 0 ∷ 0 ∷ 0 ∷ 17 ∷ 0 ∷ 0 ∷ 0 ∷ 4 ∷ 0 ∷ 0 ∷ 0 ∷ 30 ∷ 0 ∷ 0 ∷ 0 ∷ 0 ∷ 0 ∷ 0 ∷ 0
    ∷ 5 ∷ 0 ∷ 0 ∷ 0 ∷ 22 ∷ 0 ∷ 0 ∷ 0 ∷ 3 ∷ 0 ∷ 0 ∷ 0 ∷ 9 ∷ 0 ∷ 0 ∷ 0 ∷ 0 ∷ 0 ∷ 0 ∷ 0
    ∷ 4 ∷ 0 ∷ 0 ∷ 0 ∷ 35 ∷ 0 ∷ 0 ∷ 0 ∷ 14 ∷ 0 ∷ 0 ∷ 0 ∷ 232 ∷ 3 ∷ 0 ∷ 0 ∷ 0 ∷ 0 ∷ 0 ∷ 0
    ∷ 2 ∷ 0 ∷ 0 ∷ 0 ∷ 3 ∷ 0 ∷ 0 ∷ 0 ∷ 4 ∷ 0 ∷ 0 ∷ 0 ∷ []

-- what is read, made and written; lent bytes are 7
abbrev pub files : List Row
files =
    (factory 0, chain_is feed)
    ∷ (factory 1, chain_is permeate)
    ∷ (factory 2, chain_is flush)
    ∷ (read feed_file, chain_is feed)
    ∷ (read permeate_file, chain_is permeate)
    ∷ (read flush_file, chain_is flush)
    ∷ (read mixed_file, chain_is mixed)
    ∷ (read apart_file, chain_is mixed)
    ∷ (read full_file, chain_is full)
    -- room of exactly the length, and three bytes more, which stay
    ∷ (write feed (replicate 44 7), 0 ∷ 0 ∷ 44 ∷ feed_file)
    ∷ (write feed (replicate 47 7), 0 ∷ 0 ∷ 44 ∷ (feed_file ++ (7 ∷ 7 ∷ 7 ∷ [])))
    ∷ (write permeate (replicate 68 7), 0 ∷ 0 ∷ 68 ∷ permeate_file)
    ∷ (write flush (replicate 69 7), 0 ∷ 0 ∷ 68 ∷ (flush_file ++ (7 ∷ [])))
    ∷ (write mixed (replicate 68 7), 0 ∷ 0 ∷ 68 ∷ mixed_file)
    ∷ (write mixed_past (replicate 68 7), 0 ∷ 0 ∷ 68 ∷ mixed_file)
    ∷ (write full (replicate 405 7), 0 ∷ 0 ∷ 404 ∷ (full_file ++ (7 ∷ [])))
    ∷ (write short (replicate 92 7), 0 ∷ 0 ∷ 92 ∷ short_file)
    ∷ (read short_file, chain_is short)
    -- 10, place the "bytes needed"
    ∷ (write feed (replicate 43 7), 10 ∷ 44 ∷ 0 ∷ replicate 43 7)
    ∷ (write full [], 10 ∷ 404 ∷ 0 ∷ [])
    -- 14, place the "number asked"
    ∷ (factory 3, refused 14 3 98)
    ∷ (factory 4294967295, refused 14 4294967295 98)
    ∷ []

-- "the first line is always `queue,x,y,minimum,capacity,margin`", "a column `by` after `minimum`" (02, Item 1)
abbrev pub heading : List ℕ
heading = text "queue,x,y,minimum,by,capacity,margin\n"

-- "for the Feed chain, whole"
abbrev pub feed_report : List ℕ
feed_report = text "queue,x,y,minimum,by,capacity,margin\n0,4,30,10,4,10,0\nbusy,8,30\n"

-- what is reported, of files and of refusals; lent bytes are 7
abbrev pub reports : List Row
reports =
    -- Feed's: 64 bytes, into as many, into room for the longest report, and refused with one byte less
    (report feed_file (replicate 64 7), 0 ∷ 0 ∷ 64 ∷ feed_report)
    ∷ (report feed_file (replicate longest_report 7), 0 ∷ 0 ∷ 64 ∷ (feed_report ++ replicate (longest_report - 64) 7))
    ∷ (report feed_file (replicate 63 7), 10 ∷ 64 ∷ 0 ∷ replicate 63 7)
    ∷ (report permeate_file (replicate 81 7), 0 ∷ 0 ∷ 80 ∷ (heading ++ (text "0,4,15,10,4,10,0\n1,6,15,6,3,6,0\nbusy,10,15\n" ++ (7 ∷ []))))
    ∷ (report flush_file (replicate 83 7), 0 ∷ 0 ∷ 83 ∷ (heading ++ text "0,1,100,64,4,64,0\n1,1,800,8,8,8,0\nbusy,43,800\n"))
    ∷ (report flush_file (replicate 82 7), 10 ∷ 83 ∷ 0 ∷ replicate 82 7)
    ∷ (report short_file (replicate 113 7), 0 ∷ 0 ∷ 113 ∷ (heading ++ text "0,3,200,22,5,30,8\n1,5,200,26,7,9,-17\n2,10,1400,38,13,1000,962\nbusy,187,1400\n"))
    ∷ (
      report full_file (replicate 294 7),
      0 ∷ 0 ∷ 294
          ∷ (heading ++ (text "0,1,16,1,1,1,0\n1,1,16,1,1,1,0\n2,1,16,1,1,1,0\n3,1,16,1,1,1,0\n4,1,16,1,1,1,0\n5,1,16,1,1,1,0\n6,1,16,1,1,1,0\n7,1,16,1,1,1,0\n8,1,16,1,1,1,0\n9,1,16,1,1,1,0\n"
          ++ text "10,1,16,1,1,1,0\n11,1,16,1,1,1,0\n12,1,16,1,1,1,0\n13,1,16,1,1,1,0\n14,1,16,1,1,1,0\n15,1,16,1,1,1,0\nbusy,16,16\n")),
    )
    -- two of these as analyses
    ∷ (analyse short, sizes_are 3 (3 ∷ 200 ∷ 22 ∷ 5 ∷ 30 ∷ 0 ∷ 8 ∷ 5 ∷ 200 ∷ 26 ∷ 7 ∷ 9 ∷ 1 ∷ 17 ∷ 10 ∷ 1400 ∷ 38 ∷ 13 ∷ 1000 ∷ 0 ∷ 962 ∷ []) 187 1400)
    ∷ (analyse full, sizes_are 16 (repeated 16 (1 ∷ 16 ∷ 1 ∷ 1 ∷ 1 ∷ 0 ∷ 0 ∷ [])) 16 16)
    -- "a refusal prints only the line `refused,number,place`": its bytes, and those of the last line of Feed's report
    ∷ (refusal_line 4 28 (replicate 13 7), 0 ∷ 0 ∷ 13 ∷ 114 ∷ 101 ∷ 102 ∷ 117 ∷ 115 ∷ 101 ∷ 100 ∷ 44 ∷ 52 ∷ 44 ∷ 50 ∷ 56 ∷ 10 ∷ [])
    ∷ (report feed_file (replicate 64 7), 0 ∷ 0 ∷ 64 ∷ (heading ++ (text "0,4,30,10,4,10,0\n" ++ (98 ∷ 117 ∷ 115 ∷ 121 ∷ 44 ∷ 56 ∷ 44 ∷ 51 ∷ 48 ∷ 10 ∷ []))))
    ∷ (refusal_line 4 28 (replicate 12 7), 10 ∷ 13 ∷ 0 ∷ replicate 12 7)
    ∷ (refusal_line 0 1000 (replicate 16 7), 0 ∷ 0 ∷ 15 ∷ (text "refused,0,1000\n" ++ (7 ∷ [])))
    ∷ (refusal_line 4294967295 4294967295 (replicate 30 7), 0 ∷ 0 ∷ 30 ∷ text "refused,4294967295,4294967295\n")
    -- a report begins with the whole first line, which is these bytes
    ∷ (headed heading, 1 ∷ [])
    ∷ (
      headed (113 ∷ 117 ∷ 101 ∷ 117 ∷ 101 ∷ 44 ∷ 120 ∷ 44 ∷ 121 ∷ 44 ∷ 109 ∷ 105 ∷ 110 ∷ 105 ∷ 109 ∷ 117 ∷ 109 ∷ 44
          ∷ 98 ∷ 121 ∷ 44 ∷ 99 ∷ 97 ∷ 112 ∷ 97 ∷ 99 ∷ 105 ∷ 116 ∷ 121 ∷ 44 ∷ 109 ∷ 97 ∷ 114 ∷ 103 ∷ 105 ∷ 110 ∷ 10 ∷ 0 ∷ []),
      1 ∷ [],
    )
    ∷ (headed (text "queue,x,y,minimum,by,capacity,margin"), 0 ∷ [])
    ∷ (headed (text "queue,y,x,minimum,by,capacity,margin\n"), 0 ∷ [])
    ∷ (headed (text "queue,x,y,minimum,capacity,margin\n"), 0 ∷ [])
    ∷ (headed [], 0 ∷ [])
    ∷ []
