mod TwoOf
