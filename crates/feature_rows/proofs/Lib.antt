mod ExactlyOneRow
